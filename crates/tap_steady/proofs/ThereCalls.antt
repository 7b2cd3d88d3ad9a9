-- This project's own: a call on a vhost or a driver leaves the regions of its guest's memory, and the vhost's guest.
use Rattle.std.proofs.Common.{◌≡◌, ℕ, ◌+◌, List, [], ◌∷◌, length, Bool, true, false, Option, Some, None, refl, sym, ap, ◌∙◌}
use Rattle.std.specs.Prelude.{if◌then◌else◌, ◌&&◌, ◌==◌, is_none}
use Rattle.std.specs.Option.{option_map_or}
use Rattle.guest_mem.specs.Memory.{Contents, with_le16}
use Rattle.vring_split.specs.declared.layout.Layout.{Layout}
use Rattle.vhost_dev.specs.declared.error.VhostErr.{VhostErr}
use Rattle.vhost_dev.specs.Calls as dev
use Rattle.vhost_dev.specs.Refusals.{addr_refusal, base_refusal, features_refusal, num_refusal, number_refusal}
use Rattle.vhost_dev.specs.Settings.{Settings, ring_at}
use Rattle.vring_drive.specs.declared.error.DriveErr.{DriveErr}
use Rattle.vring_drive.specs.declared.error.PostErr.{PostErr}
use Rattle.vring_drive.specs.Area.{drive_refusal}
use Rattle.vring_drive.specs.Area as area
use Rattle.vring_drive.specs.Books.{Books, first_books}
use Rattle.vring_drive.specs.Harvests.{harvested, harvested_in}
use Rattle.vring_drive.specs.Posts.{filled, full_pieces, linked, offered, post_in_refusal, post_out_refusal, posted_in, posted_out}
use Rattle.scen_words.specs.declared.command.Command.{Command}
use Rattle.scen_words.specs.declared.command.Command.TheVariants as command
use Rattle.tap_trace.specs.declared.answer.Answer.{Answer}
use Rattle.tap_trace.specs.declared.answer.Answer.TheVariants as answer
use Rattle.tap_trace.specs.declared.causes.DriveText.{DriveText}
use Rattle.tap_trace.specs.declared.kind.Kind.{Kind}
use Rattle.tap_trace.specs.declared.kind.Kind.TheVariants as kind
use Rattle.tap_world.specs.Guests.{Vhost, driver_of, with_driver}
use Rattle.tap_world.specs.StepControl as control
use Rattle.tap_sound.proofs.Kit.{WhereSome, either, some_same, then_some, where_some}

-- ---- writes of drivers

linked_regions : (l : Layout) (writable : Bool) (ds lens : List ℕ) (m : Contents)
    → (linked l writable ds lens m).regions ≡ m.regions
unfolding linked
linked_regions l writable [] lens m = refl
linked_regions l writable (d ∷ ds) lens m = linked_regions l writable ds _ _

filled_regions : (l : Layout) (ds bytes : List ℕ) (m : Contents) → (filled l ds bytes m).regions ≡ m.regions
unfolding filled
filled_regions l [] bytes m = refl
filled_regions l (d ∷ ds) bytes m = filled_regions l ds _ _

area_regions : (addr number : ℕ) (m : Contents) → (area.with_field addr number m).regions ≡ m.regions
unfolding with_le16
area_regions addr number m = refl

offered_regions : (l : Layout) (place head : ℕ) (m : Contents) → (offered l place head m).regions ≡ m.regions
unfolding offered
offered_regions l place head m = area_regions _ _ _ ∙ area_regions _ _ m

posted_in_regions : (b : Books) (lens : List ℕ) (m : Contents) → (posted_in b lens m).regions ≡ m.regions
posted_in_regions b lens m = offered_regions _ _ _ _ ∙ linked_regions _ _ _ _ m

posted_out_regions : (b : Books) (bytes : List ℕ) (m : Contents) → (posted_out b bytes m).regions ≡ m.regions
posted_out_regions b bytes m = offered_regions _ _ _ _ ∙ linked_regions _ _ _ _ _ ∙ filled_regions _ _ _ m

harvested_regions : (m : Contents) (b : Books) → (harvested_in m b).regions ≡ m.regions
harvested_regions m b = go (is_none (harvested m b).stray && b.event) _ _
  where
    go : (t : Bool) (addr number : ℕ) → (if t then area.with_field addr number m else m).regions ≡ m.regions
    go true addr number = area_regions addr number m
    go false addr number = refl

-- ---- calls

abbrev pub LeavesGuest : Vhost → Contents → control.Call → Type 0
LeavesGuest v m x = (x.memory.regions ≡ m.regions) × (x.vhost.guest ≡ v.guest)

driver_guest : (ring : ℕ) (b : Books) (v : Vhost) → (with_driver ring b v).guest ≡ v.guest
driver_guest ring b v = either (λ (q : Vhost). q.guest ≡ v.guest) (ring == 0) _ _ refl refl

with_books : (k : Kind) (v : Vhost) (m : Contents) (o : Option Books) (call : Books → Option control.Call)
    → ((b : Books) → WhereSome (LeavesGuest v m) (call b))
    → WhereSome (LeavesGuest v m) (control.with_books k v m o call)
with_books k v m None call h = (refl, refl)
with_books k v m (Some b) call h = h b

refused : (k : Kind) (v : Vhost) (m : Contents) (o : Option DriveText)
    → WhereSome (LeavesGuest v m) (control.refused k v m o)
refused k v m None = tt
refused k v m (Some x) = (refl, refl)

posts : (vhost ring : ℕ) (o : Option PostErr) (need : ℕ) (n : Contents) (b : Books) (v : Vhost) (m : Contents)
    → n.regions ≡ m.regions
    → WhereSome (LeavesGuest v m) (control.posts vhost ring o need n b v m)
posts vhost ring None need n b v m h = (h, driver_guest ring _ v)
posts vhost ring (Some e) need n b v m h = refused (kind.Post vhost ring) v m (control.post_told e)

called : (o : Option VhostErr) (changed : Settings) (y : Answer) (k : Option Kind) (v : Vhost) (m : Contents)
    (x : control.Call)
    → control.called o changed y k v m ≡ Some x → LeavesGuest v m x
called o changed y k v m x e =
    let b = then_some (control.told_by o y) _ x e in
    let same = sym (some_same _ x b.2) in
    (ap (λ (q : control.Call). q.memory.regions) same, ap (λ (q : control.Call). q.vhost.guest) same)

pub call_guest : (c : Command) (v : Vhost) (m : Contents) (x : control.Call) → control.call_of c v m ≡ Some x
    → LeavesGuest v m x
call_guest (command.Features vhost bits) v m x e =
    called (features_refusal bits v.settings) (dev.with_features bits v.settings) answer.Done
    (Some (kind.Features vhost)) v m x e
call_guest (command.VNum vhost ring n) v m x e =
    called (num_refusal ring n v.settings) (dev.with_num ring n v.settings) answer.Done
    (control.on_ring ring (kind.Num vhost ring)) v m x e
call_guest (command.VBase vhost ring n) v m x e =
    called (base_refusal ring n v.settings) (dev.with_base ring n v.settings) answer.Done
    (control.on_ring ring (kind.Base vhost ring)) v m x e
call_guest (command.VAddr vhost ring desc avail used) v m x e =
    called (addr_refusal ring desc avail used m v.settings) (dev.with_addr ring desc avail used v.settings) answer.Done
    (control.on_ring ring (kind.Addr vhost ring)) v m x e
call_guest (command.GetBase vhost ring) v m x e =
    called (number_refusal ring) v.settings (answer.Base (ring_at ring v.settings).queue.positions.next)
    (control.on_ring ring (kind.GetBase vhost ring)) v m x e
call_guest (command.DriveAt vhost ring addr) v m x e =
    where_some (LeavesGuest v m) (control.call_of (command.DriveAt vhost ring addr) v m) x
    (go (drive_refusal m addr (ring_at ring v.settings).queue.layout.num)) e
  where
    go : (o : Option DriveErr)
        → WhereSome (LeavesGuest v m)
        (option_map_or (λ r. control.refused (kind.Drive vhost ring) v m (control.drive_told r)) o
        (Some (control.driven ring (kind.Drive vhost ring) v
        (first_books addr (ring_at ring v.settings).queue.layout.num
        (ring_at ring v.settings).queue.layout.event) m answer.Done)))
    go None = (refl, driver_guest ring _ v)
    go (Some r) = refused (kind.Drive vhost ring) v m (control.drive_told r)
call_guest (command.PostIn vhost ring lens) v m x e = where_some (LeavesGuest v m)
    (control.call_of (command.PostIn vhost ring lens) v m) x
    (with_books (kind.Post vhost ring) v m (driver_of ring v) _
    (λ b. posts vhost ring (post_in_refusal lens b) (length lens) (posted_in b lens m) b v m
    (posted_in_regions b lens m))) e
call_guest (command.PostOut vhost ring bytes) v m x e = where_some (LeavesGuest v m)
    (control.call_of (command.PostOut vhost ring bytes) v m) x
    (with_books (kind.Post vhost ring) v m (driver_of ring v) _
    (λ b. posts vhost ring (post_out_refusal (length bytes) b) (full_pieces (length bytes) + 1)
    (posted_out b bytes m) b v m (posted_out_regions b bytes m))) e
call_guest (command.Harvest vhost ring) v m x e = where_some (LeavesGuest v m)
    (control.call_of (command.Harvest vhost ring) v m) x
    (with_books (kind.Harvest vhost ring) v m (driver_of ring v) _
    (λ b. (harvested_regions m b, driver_guest ring _ v))) e
call_guest c v m x e = absurd (cc (e))
