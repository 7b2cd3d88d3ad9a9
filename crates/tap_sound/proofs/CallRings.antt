-- A call on a vhost or a driver leaves the regions of its guest's memory, and its rings in order.
use Rattle.std.proofs.Common.{◌≡◌, ℕ, ◌+◌, List, [], ◌∷◌, ◌++◌, length, Bool, true, false, Option, Some, None, refl, sym, ap, ◌∙◌, subst, true≢false}
use Rattle.std.specs.Prelude.{if◌then◌else◌, ◌&&◌, is_none}
use Rattle.std.specs.Option.{option_map_or}
use Rattle.guest_mem.specs.Memory.{Contents, with_le16}
use Rattle.vring_split.specs.declared.layout.Layout.{Layout}
use Rattle.vhost_dev.specs.declared.error.VhostErr.{VhostErr}
use Rattle.vhost_dev.specs.Settings.{RingSettings, Settings, at_ring, is_rx, ring_at, ring_of, with_ring}
use Rattle.vhost_dev.specs.Laws.{BackedAreGood, BackedStayGood, Call, HaveSizes, ReadyIsGood, SizesStay, after, refusal_of, made_by}
use Rattle.vhost_dev.specs.Laws.Call.{SetAddr, SetBackend, SetBase, SetFeatures, SetNum, UnsetBackend}
use Rattle.vhost_dev.specs.Device.{BeginAtZero}
use Rattle.vhost_dev.specs.Lists.{CallsKeepOrder, HaveOrder, IsTimely}
use Rattle.vhost_dev.specs.Calls.{chosen}
use Rattle.vhost_dev.specs.Calls as dev
use Rattle.vring_drive.specs.declared.error.DriveErr.{DriveErr}
use Rattle.vring_drive.specs.declared.error.PostErr.{PostErr}
use Rattle.vring_drive.specs.Area.{drive_refusal}
use Rattle.vring_drive.specs.Area as area
use Rattle.vring_drive.specs.Books.{Books, first_books}
use Rattle.vring_drive.specs.Harvests.{harvested, harvested_in}
use Rattle.vring_drive.specs.Posts.{filled, full_pieces, linked, offered, post_in_refusal, post_out_refusal, posted_in, posted_out}
use Rattle.scen_words.specs.declared.command.Command.{Command}
use Rattle.scen_words.specs.declared.command.Command.TheVariants as command
use Rattle.tap_trace.specs.declared.answer.Answer.TheVariants as answer
use Rattle.tap_trace.specs.declared.kind.Kind.{Kind}
use Rattle.tap_trace.specs.declared.kind.Kind.TheVariants as kind
use Rattle.tap_world.specs.Guests.{Guest, Vhost, driver_of}
use Rattle.tap_world.specs.SoundRings.{IsRing}
use Rattle.tap_world.specs.StepControl as control
use Rattle.tap_sound.proofs.Kit.{WhereSome, some_same, then_some, where_some}
use Rattle.tap_trace.specs.declared.causes.DriveText.{DriveText}
use Rattle.tap_trace.specs.declared.answer.Answer.{Answer}
use Rattle.vhost_dev.specs.Refusals.{addr_refusal, base_refusal, features_refusal, num_refusal, number_refusal}

-- ---- memory

linked_regions : (l : Layout) (writable : Bool) (ds lens : List ℕ) (m : Contents) → (linked l writable ds lens m).regions ≡ m.regions
unfolding linked
linked_regions l writable [] lens m = refl
linked_regions l writable (d ∷ ds) lens m = linked_regions l writable ds _ _

filled_regions : (l : Layout) (ds bytes : List ℕ) (m : Contents) → (filled l ds bytes m).regions ≡ m.regions
unfolding filled
filled_regions l [] bytes m = refl
filled_regions l (d ∷ ds) bytes m = filled_regions l ds _ _

area_regions : (addr number : ℕ) (m : Contents) → (area.with_field addr number m).regions ≡ m.regions
unfolding with_le16
area_regions addr number m = refl

offered_regions : (l : Layout) (place head : ℕ) (m : Contents) → (offered l place head m).regions ≡ m.regions
unfolding offered
offered_regions l place head m = area_regions _ _ _ ∙ area_regions _ _ m

abbrev SameRegions : Contents → control.Call → Type 0
SameRegions m x = x.memory.regions ≡ m.regions

books_regions : (k : Kind) (v : Vhost) (m : Contents) (o : Option Books) (call : Books → Option control.Call) → ((b : Books) → WhereSome (SameRegions m) (call b))
    → WhereSome (SameRegions m) (control.with_books k v m o call)
books_regions k v m None call h = refl
books_regions k v m (Some b) call h = h b

refused_regions : (k : Kind) (v : Vhost) (m : Contents) (o : Option DriveText) → WhereSome (SameRegions m) (control.refused k v m o)
refused_regions k v m None = tt
refused_regions k v m (Some x) = refl

posts_regions : (vhost ring : ℕ) (o : Option PostErr) (need : ℕ) (n : Contents) (b : Books) (v : Vhost) (m : Contents) → n.regions ≡ m.regions
    → WhereSome (SameRegions m) (control.posts vhost ring o need n b v m)
posts_regions vhost ring None need n b v m h = h
posts_regions vhost ring (Some e) need n b v m h = refused_regions (kind.Post vhost ring) v m (control.post_told e)

called_regions : (o : Option VhostErr) (changed : Settings) (y : Answer) (k : Option Kind) (v : Vhost) (m : Contents) (x : control.Call)
    → control.called o changed y k v m ≡ Some x → SameRegions m x
called_regions o changed y k v m x e =
    let b = then_some (control.told_by o y) _ x e in
    ap (λ (q : control.Call). q.memory.regions) (sym (some_same _ x b.2))

posted_in_regions : (b : Books) (lens : List ℕ) (m : Contents) → (posted_in b lens m).regions ≡ m.regions
posted_in_regions b lens m = offered_regions _ _ _ _ ∙ linked_regions _ _ _ _ m

posted_out_regions : (b : Books) (bytes : List ℕ) (m : Contents) → (posted_out b bytes m).regions ≡ m.regions
posted_out_regions b bytes m = offered_regions _ _ _ _ ∙ linked_regions _ _ _ _ _ ∙ filled_regions _ _ _ m

harvested_regions : (m : Contents) (b : Books) → (harvested_in m b).regions ≡ m.regions
harvested_regions m b = go (is_none (harvested m b).stray && b.event) _ _
  where
    go : (t : Bool) (addr number : ℕ) → (if t then area.with_field addr number m else m).regions ≡ m.regions
    go true addr number = area_regions addr number m
    go false addr number = refl

pub call_regions : (c : Command) (v : Vhost) (m : Contents) (x : control.Call) → control.call_of c v m ≡ Some x → SameRegions m x
call_regions (command.Features vhost bits) v m x e =
    called_regions (features_refusal bits v.settings) (dev.with_features bits v.settings) answer.Done (Some (kind.Features vhost)) v m x e
call_regions (command.VNum vhost ring n) v m x e =
    called_regions (num_refusal ring n v.settings) (dev.with_num ring n v.settings) answer.Done (control.on_ring ring (kind.Num vhost ring)) v m x e
call_regions (command.VBase vhost ring n) v m x e =
    called_regions (base_refusal ring n v.settings) (dev.with_base ring n v.settings) answer.Done (control.on_ring ring (kind.Base vhost ring)) v m x e
call_regions (command.VAddr vhost ring desc avail used) v m x e =
    called_regions (addr_refusal ring desc avail used m v.settings) (dev.with_addr ring desc avail used v.settings) answer.Done
    (control.on_ring ring (kind.Addr vhost ring)) v m x e
call_regions (command.GetBase vhost ring) v m x e =
    called_regions (number_refusal ring) v.settings (answer.Base (ring_at ring v.settings).queue.positions.next) (control.on_ring ring (kind.GetBase vhost ring)) v m x e
call_regions (command.DriveAt vhost ring addr) v m x e = where_some (SameRegions m) (control.call_of (command.DriveAt vhost ring addr) v m) x (go (drive_refusal m addr (ring_at ring v.settings).queue.layout.num)) e
  where
    go : (o : Option DriveErr) → WhereSome (SameRegions m) (option_map_or (λ r. control.refused (kind.Drive vhost ring) v m (control.drive_told r)) o
        (Some (control.driven ring (kind.Drive vhost ring) v
        (first_books addr (ring_at ring v.settings).queue.layout.num (ring_at ring v.settings).queue.layout.event) m answer.Done)))
    go None = refl
    go (Some r) = refused_regions (kind.Drive vhost ring) v m (control.drive_told r)
call_regions (command.PostIn vhost ring lens) v m x e = where_some (SameRegions m) (control.call_of (command.PostIn vhost ring lens) v m) x
    (books_regions (kind.Post vhost ring) v m (driver_of ring v) _ (λ b. posts_regions vhost ring (post_in_refusal lens b) (length lens) (posted_in b lens m) b v m (posted_in_regions b lens m))) e
call_regions (command.PostOut vhost ring bytes) v m x e = where_some (SameRegions m) (control.call_of (command.PostOut vhost ring bytes) v m) x
    (books_regions (kind.Post vhost ring) v m (driver_of ring v) _
    (λ b. posts_regions vhost ring (post_out_refusal (length bytes) b) (full_pieces (length bytes) + 1) (posted_out b bytes m) b v m (posted_out_regions b bytes m))) e
call_regions (command.Harvest vhost ring) v m x e = where_some (SameRegions m) (control.call_of (command.Harvest vhost ring) v m) x
    (books_regions (kind.Harvest vhost ring) v m (driver_of ring v) _ (λ b. harvested_regions m b)) e
call_regions c v m x e = absurd (cc (e))

-- ---- settings

pub record DevLaws : Type 0 where
  pub sizes : SizesStay
  pub ready : ReadyIsGood
  pub good : BackedStayGood
  pub order : CallsKeepOrder

abbrev pub BothRings : Guest → Settings → Type 0
BothRings g s = IsRing g s.rx × IsRing g s.tx

-- the lists of positions begin at 0 with the first chain that was published, also after a call
abbrev HaveFirst : Settings → Type 0
HaveFirst s = (rx : Bool) → BeginAtZero (ring_of rx s).lists

more_first : (lists : List (ℕ × ℕ)) (l : ℕ × ℕ) → BeginAtZero lists → BeginAtZero (lists ++ l ∷ [])
more_first lists l h = (h.0 ++ l ∷ [], ap (λ (k : List (ℕ × ℕ)). k ++ l ∷ []) h.1)

one_first : (ring : ℕ) (change : RingSettings → RingSettings) (s : Settings) → ((r : RingSettings) → BeginAtZero r.lists → BeginAtZero (change r).lists) → HaveFirst s → HaveFirst (at_ring ring change s)
one_first ring change s keep h rx = go (is_rx ring) rx
  where
    go : (b q : Bool) → BeginAtZero (ring_of q (with_ring b (change (ring_of b s)) s)).lists
    go true true = keep s.rx (h true)
    go true false = h false
    go false true = h true
    go false false = keep s.tx (h false)

made_first : (m : Contents) (s : Settings) (x : Call) → HaveFirst s → HaveFirst (made_by m s x)
made_first m s (SetFeatures bits) h = both
  where
    both : HaveFirst (dev.with_features bits s)
    both true = h true
    both false = h false
made_first m s (SetNum ring n) h = one_first ring (dev.resized n) s (λ r k. k) h
made_first m s (SetBase ring base) h = one_first ring (dev.begun base) s (λ r k. more_first r.lists _ k) h
made_first m s (SetAddr ring desc avail used) h = one_first ring (dev.placed desc avail used) s (λ r k. k) h
made_first m s (SetBackend ring file) h = one_first ring (dev.backed file m) s (λ r k. k) h
made_first m s (UnsetBackend ring) h = one_first ring dev.unbacked s (λ r k. k) h

after_first : (m : Contents) (s : Settings) (x : Call) → HaveFirst s → HaveFirst (after m s x)
after_first m s x h = go (refusal_of m s x)
  where
    go : (o : Option VhostErr) → HaveFirst (chosen o s (made_by m s x))
    go None = made_first m s x h
    go (Some e) = h

of_both : (g : Guest) (s : Settings) → BothRings g s → HaveOrder s × HaveSizes s × BackedAreGood g.memory s × HaveFirst s
of_both g s h = (order, sizes, good, first)
  where
    order : HaveOrder s
    order true = h.0.lists
    order false = h.1.lists

    sizes : HaveSizes s
    sizes true = h.0.size
    sizes false = h.1.size

    good : BackedAreGood g.memory s
    good true k = h.0.good k
    good false k = h.1.good k

    first : HaveFirst s
    first true = h.0.begun
    first false = h.1.begun

to_both : (g : Guest) (s : Settings) → HaveOrder s → HaveSizes s → BackedAreGood g.memory s → HaveFirst s → BothRings g s
to_both g s order sizes good first = (
  record { lists = order true; begun = first true; size = sizes true; good = λ k. good true k },
  record { lists = order false; begun = first false; size = sizes false; good = λ k. good false k },
)

-- a call that isn't refused and no backend
pub call_keeps : DevLaws → (g : Guest) (s t : Settings) (x : Call) → IsTimely s x → refusal_of g.memory s x ≡ None → t ≡ made_by g.memory s x → BothRings g s → BothRings g t
call_keeps laws g s t x timely lawful is h =
    let b = of_both g s h in
    let same : after g.memory s x ≡ t = ap (λ (o : Option VhostErr). chosen o s (made_by g.memory s x)) lawful ∙ sym is in
    subst (BothRings g) same
    (to_both g (after g.memory s x) (laws.order g.memory s x timely b.0) (laws.sizes g.memory s x b.1) (laws.good g.memory s x b.1 b.2) (after_first g.memory s x b.3))
