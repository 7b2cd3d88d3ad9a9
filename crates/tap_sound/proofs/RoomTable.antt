-- Which operations change the capacity that the table has of a file.
use Rattle.std.proofs.Common.{◌≡◌, ◌≢◌, ℕ, zero, suc, List, [], ◌∷◌, Bool, true, false, Option, Some, None, refl, ap}
use Rattle.std.specs.Prelude.{if◌then◌else◌, slice_index_or, slice_set}
use Rattle.tap_ledger.specs.declared.side.Side.{Side}
use Rattle.tap_ledger.specs.declared.side.Side.TheVariants.{Rx, Tx}
use Rattle.tap_steer.specs.declared.files.Attachment.{Attachment}
use Rattle.tap_steer.specs.declared.files.Attachment.TheVariants.{Disabled, Enabled, Unattached}
use Rattle.tap_steer.specs.declared.files.File.{File}
use Rattle.tap_steer.specs.declared.operation.Op.{Op}
use Rattle.tap_steer.specs.declared.operation.Op.TheVariants as op
use Rattle.tap_steer.specs.declared.operation.TheConstants.{IFF_ATTACH_QUEUE}
use Rattle.tap_steer.specs.declared.settings.Settings.{Settings}
use Rattle.tap_steer.specs.Table.{Table, device_of, file_at, is_set, new_file, with_file}
use Rattle.tap_steer.specs.After.{after, attach_queue, back, backed, detach_queue, disabled, enabled, learn, learn_at, left, resize, resized, set_at, set_device, set_iff, shut, tick}
use Rattle.tap_world.specs.Sound.{table_capacity}

-- the file of a number, where another one is set in the place of one
set_other : (d : File) (files : List File) (n : ℕ) (new : File) (m : ℕ) → n ≢ m → slice_index_or (slice_set files n new) m d ≡ slice_index_or files m d
set_other d [] n new m ne = refl
set_other d (x ∷ xs) zero new zero ne = absurd (ne refl)
set_other d (x ∷ xs) zero new (suc m) ne = refl
set_other d (x ∷ xs) (suc n) new zero ne = refl
set_other d (x ∷ xs) (suc n) new (suc m) ne = set_other d xs n new m (λ e. ne (ap suc e))

abbrev SameCapacities : Table → Table → Type 0
SameCapacities t u = (file : ℕ) → table_capacity file u ≡ table_capacity file t

set_same : (d : File) (files : List File) (n : ℕ) (new : File) → new.capacity ≡ (slice_index_or files n d).capacity
    → (m : ℕ) → (slice_index_or (slice_set files n new) m d).capacity ≡ (slice_index_or files m d).capacity
set_same d [] n new same m = refl
set_same d (x ∷ xs) zero new same zero = same
set_same d (x ∷ xs) zero new same (suc m) = refl
set_same d (x ∷ xs) (suc n) new same zero = refl
set_same d (x ∷ xs) (suc n) new same (suc m) = set_same d xs n new same m

with_file_same : (t : Table) (file : ℕ) (new : File) → new.capacity ≡ (file_at t file).capacity → SameCapacities t (with_file t file new)
with_file_same t file new same other = set_same (new_file 0) t.files file new same other

same_if : (t : Table) (b : Bool) (u v : Table) → SameCapacities t u → SameCapacities t v → SameCapacities t (if b then u else v)
same_if t true u v x y = x
same_if t false u v x y = y

same_enabled : (a : Attachment) (t : Table) (file : ℕ) → SameCapacities t (enabled a t file)
same_enabled (Disabled device) t file = with_file_same t file _ refl
same_enabled (Enabled device) t file = λ other. refl
same_enabled Unattached t file = λ other. refl

same_disabled : (a : Attachment) (t : Table) (file : ℕ) → SameCapacities t (disabled a t file)
same_disabled (Enabled device) t file = with_file_same t file _ refl
same_disabled (Disabled device) t file = λ other. refl
same_disabled Unattached t file = λ other. refl

same_left : (a : Attachment) (t : Table) (file : ℕ) → SameCapacities t (left a t file)
same_left (Enabled device) t file = with_file_same t file _ refl
same_left (Disabled device) t file = with_file_same t file _ refl
same_left Unattached t file = λ other. refl

same_set_iff : (t : Table) (file device flags : ℕ) → SameCapacities t (set_iff t file device flags)
unfolding set_iff
same_set_iff t file device flags = with_file_same t file _ refl

same_attach : (t : Table) (file : ℕ) → SameCapacities t (attach_queue t file)
unfolding attach_queue
same_attach t file = same_enabled (file_at t file).attachment t file

same_detach : (t : Table) (file : ℕ) → SameCapacities t (detach_queue t file)
unfolding detach_queue
same_detach t file = same_disabled (file_at t file).attachment t file

same_shut : (t : Table) (file : ℕ) → SameCapacities t (shut t file)
unfolding shut
same_shut t file = same_left (file_at t file).attachment t file

same_set_at : (o : Option ℕ) (t : Table) (change : Settings → Settings) → SameCapacities t (set_at o t change)
same_set_at None t change = λ other. refl
same_set_at (Some device) t change = λ other. refl

same_set_device : (t : Table) (file : ℕ) (change : Settings → Settings) → SameCapacities t (set_device t file change)
unfolding set_device
same_set_device t file change = same_set_at (device_of t file) t change

same_learn_at : (a : Attachment) (t : Table) (file hash : ℕ) → SameCapacities t (learn_at a t file hash)
same_learn_at (Enabled device) t file hash = λ other. refl
same_learn_at (Disabled device) t file hash = λ other. refl
same_learn_at Unattached t file hash = λ other. refl

same_learn : (t : Table) (file hash : ℕ) → SameCapacities t (learn t file hash)
unfolding learn
same_learn t file hash = same_learn_at (file_at t file).attachment t file hash

same_tick : (t : Table) (now : ℕ) → SameCapacities t (tick t now)
unfolding tick
same_tick t now = λ other. refl

same_backed : (side : Side) (vhost : Option ℕ) (file : File) → (backed side vhost file).capacity ≡ file.capacity
same_backed Rx vhost file = refl
same_backed Tx vhost file = refl

same_back : (t : Table) (file : ℕ) (side : Side) (vhost : Option ℕ) → SameCapacities t (back t file side vhost)
unfolding back
same_back t file side vhost = with_file_same t file (backed side vhost (file_at t file)) (same_backed side vhost (file_at t file))

-- ---- all operations

abbrev pub IsNoResize : Op → Type 0
IsNoResize (op.Resize file capacity) = ⊥
IsNoResize x = Unit {0}

pub same_after : (t : Table) (x : Op) → IsNoResize x → SameCapacities t (after t x)
same_after t (op.SetIff file device flags) h = same_set_iff t file device flags
same_after t (op.SetQueue file flags) h = same_if t (is_set flags IFF_ATTACH_QUEUE) (attach_queue t file) (detach_queue t file) (same_attach t file) (same_detach t file)
same_after t (op.Shut file) h = same_shut t file
same_after t (op.HdrSize file size) h = same_set_device t file _
same_after t (op.Persist file on) h = same_set_device t file _
same_after t (op.Learn file hash) h = same_learn t file hash
same_after t (op.Tick now) h = same_tick t now
same_after t (op.Steering file program) h = same_set_device t file _
same_after t (op.Filter file program) h = same_set_device t file _
same_after t (op.Back file side vhost) h = same_back t file side vhost
same_after t (op.Resize file capacity) h = absurd h

pub resize_elsewhere : (t : Table) (file capacity other : ℕ) → file ≢ other → table_capacity other (resize t file capacity) ≡ table_capacity other t
unfolding resize
resize_elsewhere t file capacity other ne = ap (λ (f : File). f.capacity) (set_other (new_file 0) t.files file (resized capacity (file_at t file)) other ne)
