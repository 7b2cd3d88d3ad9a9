-- What a call on a vhost prints, and that it leaves the files of the vhost's rings.
use Rattle.std.proofs.Common.{◌≡◌, ℕ, Option, Some, None, Bool, true, false, refl, ap, ◌∙◌, subst}
use Rattle.std.specs.Prelude.{◌==◌, if◌then◌else◌, length}
use Rattle.std.specs.Option.{option_map_or}
use Rattle.guest_mem.specs.Memory.{Contents}
use Rattle.vhost_dev.specs.declared.error.VhostErr.{VhostErr}
use Rattle.vhost_dev.specs.Calls.{begun, chosen, placed, resized, with_addr, with_base, with_features, with_num}
use Rattle.vhost_dev.specs.Settings.{RingSettings, Settings, is_rx, ring_at, ring_of, with_ring}
use Rattle.vring_drive.specs.declared.error.PostErr.{PostErr}
use Rattle.vring_drive.specs.Area.{drive_refusal}
use Rattle.vring_drive.specs.Books.{Books}
use Rattle.vring_drive.specs.Posts.{post_in_refusal, post_out_refusal}
use Rattle.scen_words.specs.declared.command.Command.{Command}
use Rattle.scen_words.specs.declared.command.Command.TheVariants as command
use Rattle.tap_trace.specs.declared.answer.Answer.{Answer}
use Rattle.tap_trace.specs.declared.causes.DriveText.{DriveText}
use Rattle.tap_trace.specs.declared.kind.Kind.{Kind}
use Rattle.tap_trace.specs.declared.kind.Kind.TheVariants as kind
use Rattle.tap_ground.specs.Options.{◌>>=◌, only_if}
use Rattle.tap_world.specs.Guests.{Vhost, driver_of, is_ring}
use Rattle.tap_world.specs.StepControl.{Call, call_of, called, drive_told, driven, driver_call, posts, refused, told_by, with_books}
use Rattle.tap_sights.proofs.Kit.{some_same}

pub bound : {A B : Type 0} (o : Option A) (f : A → Option B) (y : B) → (o >>= f) ≡ Some y → (x : A) × (o ≡ Some x) × (f x ≡ Some y)
bound None f y e = absurd (cc (e))
bound (Some x) f y e = (x, refl, e)

-- a step sets or unsets a backend
abbrev pub sets : Option Kind → Bool
sets (Some (kind.Backend vhost ring b)) = b
sets other = false

-- both rings have the same files
abbrev pub SameFiles : Settings → Settings → Type 0
SameFiles s t = (s.rx.file ≡ t.rx.file) × (s.tx.file ≡ t.tx.file)

pub ring_kept : (b : Bool) (r : RingSettings) (s : Settings) → r.file ≡ (ring_of b s).file → SameFiles (with_ring b r s) s
ring_kept true r s e = (e, refl)
ring_kept false r s e = (refl, e)

pub record IsCall (v : Vhost) (y : Call) : Type 0 where
  pub none : sets y.step ≡ false
  pub files : SameFiles y.vhost.settings v.settings

-- ---- control calls

chosen_files : (refusal : Option VhostErr) (old new : Settings) → SameFiles new old → SameFiles (chosen refusal old new) old
chosen_files None old new h = h
chosen_files (Some e) old new h = (refl, refl)

called_is : (refusal : Option VhostErr) (changed : Settings) (x : Answer) (step : Option Kind) (v : Vhost) (m : Contents) (y : Call)
    → sets step ≡ false → SameFiles changed v.settings → called refusal changed x step v m ≡ Some y → IsCall v y
called_is refusal changed x step v m y none h e =
    let b = bound (told_by refusal x) _ y e in
    subst (IsCall v) (some_same _ y b.2) (record { none = none; files = chosen_files refusal v.settings changed h })

on_ring_sets : (b : Bool) (k : Kind) → sets (Some k) ≡ false → sets (only_if b k) ≡ false
on_ring_sets true k e = e
on_ring_sets false k e = refl

-- ---- calls of drivers

record Leaves (k : Kind) (v : Vhost) (y : Call) : Type 0 where
  step : y.step ≡ Some k
  settings : y.vhost.settings ≡ v.settings

of_driver : (k : Kind) (v : Vhost) (y : Call) → sets (Some k) ≡ false → Leaves k v y → IsCall v y
of_driver k v y none l = record {
  none = ap sets l.step ∙ none;
  files = (ap (λ (s : Settings). s.rx.file) l.settings, ap (λ (s : Settings). s.tx.file) l.settings);
}

refused_leaves : (k : Kind) (v : Vhost) (m : Contents) (told : Option DriveText) (y : Call) → refused k v m told ≡ Some y → Leaves k v y
refused_leaves k v m None y e = absurd (cc (e))
refused_leaves k v m (Some x) y e = subst (Leaves k v) (some_same _ y e) (record { step = refl; settings = refl })

driver_set : (rx : Bool) (b : Books) (v : Vhost)
    → (if rx then record v { rx_driver = Some b } else record v { tx_driver = Some b }).settings ≡ v.settings
driver_set true b v = refl
driver_set false b v = refl

driven_leaves : (ring : ℕ) (k : Kind) (v : Vhost) (b : Books) (m : Contents) (x : Answer) → Leaves k v (driven ring k v b m x)
driven_leaves ring k v b m x = record { step = refl; settings = driver_set (ring == 0) b v }

or_leaves : {E : Type 0} (f : E → Option Call) (o : Option E) (x y : Call) (k : Kind) (v : Vhost)
    → ((e : E) (z : Call) → f e ≡ Some z → Leaves k v z) → Leaves k v x → option_map_or f o (Some x) ≡ Some y → Leaves k v y
or_leaves f None x y k v law h e = subst (Leaves k v) (some_same x y e) h
or_leaves f (Some w) x y k v law h e = law w y e

posts_leaves : (vhost ring : ℕ) (o : Option PostErr) (need : ℕ) (after : Contents) (b : Books) (v : Vhost) (m : Contents) (y : Call)
    → posts vhost ring o need after b v m ≡ Some y → Leaves (kind.Post vhost ring) v y
posts_leaves vhost ring (Some e) need after b v m y h = refused_leaves _ v m _ y h
posts_leaves vhost ring None need after b v m y h = subst (Leaves (kind.Post vhost ring) v) (some_same _ y h) (driven_leaves ring _ v _ _ _)

books_leave : (k : Kind) (v : Vhost) (m : Contents) (o : Option Books) (call : Books → Option Call) (y : Call)
    → ((b : Books) (z : Call) → call b ≡ Some z → Leaves k v z) → with_books k v m o call ≡ Some y → Leaves k v y
books_leave k v m None call y law e = subst (Leaves k v) (some_same _ y e) (record { step = refl; settings = refl })
books_leave k v m (Some b) call y law e = law b y e

driver_is : (k : Command) (v : Vhost) (m : Contents) (y : Call) → driver_call k v m ≡ Some y → IsCall v y
driver_is (command.DriveAt vhost ring addr) v m y e =
    let q = (ring_at ring v.settings).queue.layout in
    of_driver (kind.Drive vhost ring) v y refl
    (or_leaves (λ w. refused (kind.Drive vhost ring) v m (drive_told w)) (drive_refusal m addr q.num) _ y (kind.Drive vhost ring) v
    (λ w z h. refused_leaves (kind.Drive vhost ring) v m (drive_told w) z h) (driven_leaves ring (kind.Drive vhost ring) v _ m _) e)
driver_is (command.PostIn vhost ring lens) v m y e =
    of_driver (kind.Post vhost ring) v y refl (books_leave (kind.Post vhost ring) v m (driver_of ring v) _ y
    (λ b z h. posts_leaves vhost ring (post_in_refusal lens b) _ _ b v m z h) e)
driver_is (command.PostOut vhost ring bytes) v m y e =
    of_driver (kind.Post vhost ring) v y refl (books_leave (kind.Post vhost ring) v m (driver_of ring v) _ y
    (λ b z h. posts_leaves vhost ring (post_out_refusal (length bytes) b) _ _ b v m z h) e)
driver_is (command.Harvest vhost ring) v m y e =
    of_driver (kind.Harvest vhost ring) v y refl (books_leave (kind.Harvest vhost ring) v m (driver_of ring v) _ y
    (λ b z h. subst (Leaves (kind.Harvest vhost ring) v) (some_same _ z h) (driven_leaves ring (kind.Harvest vhost ring) v _ _ _)) e)
driver_is k v m y e = absurd (cc (e))

-- ---- any call

pub call_is : (k : Command) (v : Vhost) (m : Contents) (y : Call) → call_of k v m ≡ Some y → IsCall v y
call_is (command.Features vhost bits) v m y e = called_is _ (with_features bits v.settings) _ _ v m y refl (refl, refl) e
call_is (command.VNum vhost ring n) v m y e =
    called_is _ (with_num ring n v.settings) _ _ v m y (on_ring_sets (is_ring ring) (kind.Num vhost ring) refl)
    (ring_kept (is_rx ring) (resized n (ring_at ring v.settings)) v.settings refl) e
call_is (command.VBase vhost ring n) v m y e =
    called_is _ (with_base ring n v.settings) _ _ v m y (on_ring_sets (is_ring ring) (kind.Base vhost ring) refl)
    (ring_kept (is_rx ring) (begun n (ring_at ring v.settings)) v.settings refl) e
call_is (command.VAddr vhost ring desc avail used) v m y e =
    called_is _ (with_addr ring desc avail used v.settings) _ _ v m y (on_ring_sets (is_ring ring) (kind.Addr vhost ring) refl)
    (ring_kept (is_rx ring) (placed desc avail used (ring_at ring v.settings)) v.settings refl) e
call_is (command.GetBase vhost ring) v m y e =
    called_is _ v.settings _ _ v m y (on_ring_sets (is_ring ring) (kind.GetBase vhost ring) refl) (refl, refl) e
call_is k v m y e = driver_is k v m y e
