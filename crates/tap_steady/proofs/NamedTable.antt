-- This project's own: what an operation makes of one file of the table: its attachment and its backends.
use Rattle.std.proofs.Common.{◌≡◌, ◌⊎◌, ℕ, ◌<◌, ◌≤◌, List, length, set, Bool, true, false, Option, Some, None, inl, inr, ⊎_elim, refl, sym, ap, ◌∙◌, subst}
use Rattle.std.specs.Prelude.{if◌then◌else◌}
use Rattle.std.proofs.lemmas.Bool.{cases_lt}
use Rattle.std.proofs.lemmas.Bool.Decides.{eqb_tells}
use Rattle.tap_ledger.specs.declared.side.Side.{Side}
use Rattle.tap_ledger.specs.declared.side.Side.TheVariants.{Rx, Tx}
use Rattle.tap_steer.specs.declared.files.Attachment.{Attachment}
use Rattle.tap_steer.specs.declared.files.Attachment.TheVariants.{Disabled, Enabled, Unattached}
use Rattle.tap_steer.specs.declared.files.File.{File}
use Rattle.tap_steer.specs.declared.operation.Op.{Op}
use Rattle.tap_steer.specs.declared.operation.Op.TheVariants as op
use Rattle.tap_steer.specs.declared.operation.TheConstants.{IFF_ATTACH_QUEUE}
use Rattle.tap_steer.specs.Table.{Table, device_of, file_at, home, is_set, new_file}
use Rattle.tap_steer.specs.Rules.{backer}
use Rattle.tap_steer.specs.After.{after, attach_queue, attached_file, backed, detach_queue, disabled, enabled, left, resized, shut, standing}
use Rattle.tap_sound.proofs.TableFiles.{at_files, back_one, device_same, files_after, learn_same, many, one_here, one_there, past, resize_one, set_iff_one, tick_same}

-- ---- one file after an operation

-- the file that an operation on a queue or a capacity is about
abbrev pub op_file : Op → Option ℕ
op_file (op.SetIff file device flags) = Some file
op_file (op.SetQueue file flags) = Some file
op_file (op.Shut file) = Some file
op_file (op.Resize file capacity) = Some file
op_file other = None

-- it is as it was or as never attached; or the operation is about it, and leaves its backends; or it gets a backend
pub data FileAfter (t : Table) (x : Op) (n : ℕ) : Type 0 where
  Still : file_at (after t x) n ≡ file_at t n → FileAfter t x n
  Fresh : file_at (after t x) n ≡ new_file 0 → FileAfter t x n
  Moved : op_file x ≡ Some n → ((side : Side) → backer side (file_at (after t x) n) ≡ backer side (file_at t n))
      → FileAfter t x n
  Backed : (side : Side) (vhost : Option ℕ) → x ≡ op.Back n side vhost
      → file_at (after t x) n ≡ backed side vhost (file_at t n) → FileAfter t x n

still : (t : Table) (x : Op) (n : ℕ) → (after t x).files ≡ t.files → FileAfter t x n
still t x n is = Still (at_files t (after t x) is n)

-- one file changes, and keeps its backends
one : (t : Table) (x : Op) (file : ℕ) (g : File) → op_file x ≡ Some file → (after t x).files ≡ set t.files file g
    → ((side : Side) → backer side g ≡ backer side (file_at t file)) → (n : ℕ) → FileAfter t x n
one t x file g its is keep n = ⊎_elim
    (λ same. subst (FileAfter t x) (sym same.1) (go (cases_lt file (length t.files))))
    (λ other. Still (one_there t (after t x) file g is n other.1))
    (eqb_tells n file)
  where
    go : (file < length t.files) ⊎ (length t.files ≤ file) → FileAfter t x file
    go (inl below) = Moved its (λ side. ap (backer side) (one_here t (after t x) file g is below) ∙ keep side)
    go (inr beyond) = Fresh
        (past (after t x) file (subst (λ (k : ℕ). k ≤ file) (sym (many t (after t x) (files_after t x))) beyond))

-- ---- queues that come and go

attached_backer : (f : File) (device : ℕ) (side : Side) → backer side (attached_file f device) ≡ backer side f
attached_backer f device Rx = refl
attached_backer f device Tx = refl

standing_backer : (f : File) (a : Attachment) (side : Side) → backer side (standing a f) ≡ backer side f
standing_backer f a Rx = refl
standing_backer f a Tx = refl

resized_backer : (f : File) (capacity : ℕ) (side : Side) → backer side (resized capacity f) ≡ backer side f
resized_backer f capacity Rx = refl
resized_backer f capacity Tx = refl

-- the files stay, or one of them changes and keeps its backends
abbrev OneAt : Table → List File → ℕ → Type 0
OneAt t files file =
    (files ≡ t.files) ⊎ ((g : File) × (files ≡ set t.files file g)
    × ((side : Side) → backer side g ≡ backer side (file_at t file)))

enabled_at : (t : Table) (file : ℕ) (a : Attachment) → OneAt t (enabled a t file).files file
enabled_at t file (Disabled device) = inr (
  attached_file (file_at t file) device,
  refl,
  attached_backer
      (file_at t file) device,
)
enabled_at t file (Enabled device) = inl refl
enabled_at t file Unattached = inl refl

disabled_at : (t : Table) (file : ℕ) (a : Attachment) → OneAt t (disabled a t file).files file
disabled_at t file (Enabled device) = inr (
  standing (Disabled device) (file_at t file),
  refl,
  standing_backer
      (file_at t file) (Disabled device),
)
disabled_at t file (Disabled device) = inl refl
disabled_at t file Unattached = inl refl

left_at : (t : Table) (file : ℕ) (a : Attachment) → OneAt t (left a t file).files file
left_at t file (Enabled device) = inr (
  standing Unattached (file_at t file),
  refl,
  standing_backer
      (file_at t file) Unattached,
)
left_at t file (Disabled device) = inr (
  standing Unattached (file_at t file),
  refl,
  standing_backer
      (file_at t file) Unattached,
)
left_at t file Unattached = inl refl

attach_at : (t : Table) (file : ℕ) → OneAt t (attach_queue t file).files file
unfolding attach_queue
attach_at t file = enabled_at t file (file_at t file).attachment

detach_at : (t : Table) (file : ℕ) → OneAt t (detach_queue t file).files file
unfolding detach_queue
detach_at t file = disabled_at t file (file_at t file).attachment

queue_at : (t : Table) (file : ℕ) (b : Bool)
    → OneAt t (if b then attach_queue t file else detach_queue t file).files file
queue_at t file true = attach_at t file
queue_at t file false = detach_at t file

shut_at : (t : Table) (file : ℕ) → OneAt t (shut t file).files file
unfolding shut
shut_at t file = left_at t file (file_at t file).attachment

perhaps_one : (t : Table) (x : Op) (file : ℕ) → op_file x ≡ Some file → OneAt t (after t x).files file → (n : ℕ)
    → FileAfter t x n
perhaps_one t x file its (inl is) n = still t x n is
perhaps_one t x file its (inr g) n = one t x file g.0 its g.1 g.2 n

-- ---- backends

backs : (t : Table) (file : ℕ) (side : Side) (vhost : Option ℕ) (n : ℕ) → FileAfter t (op.Back file side vhost) n
backs t file side vhost n = ⊎_elim
    (λ same. subst (FileAfter t (op.Back file side vhost)) (sym same.1) (go (cases_lt file (length t.files))))
    (λ other. Still (one_there t (after t (op.Back file side vhost)) file _ (back_one t file side vhost) n other.1))
    (eqb_tells n file)
  where
    go : (file < length t.files) ⊎ (length t.files ≤ file) → FileAfter t (op.Back file side vhost) file
    go (inl below) = Backed side vhost refl (one_here t (after t (op.Back file side vhost)) file _
        (back_one t file side vhost) below)
    go (inr beyond) = Fresh (past (after t (op.Back file side vhost)) file
        (subst (λ (k : ℕ). k ≤ file)
        (sym (many t (after t (op.Back file side vhost)) (files_after t (op.Back file side vhost)))) beyond))

-- ---- all operations

pub file_after : (t : Table) (x : Op) (n : ℕ) → FileAfter t x n
file_after t (op.SetIff file device flags) n =
    one t (op.SetIff file device flags) file (attached_file (file_at t file) device) refl
    (set_iff_one t file device flags)
    (attached_backer (file_at t file) device) n
file_after t (op.SetQueue file flags) n =
    perhaps_one t (op.SetQueue file flags) file refl (queue_at t file (is_set flags IFF_ATTACH_QUEUE)) n
file_after t (op.Shut file) n = perhaps_one t (op.Shut file) file refl (shut_at t file) n
file_after t (op.HdrSize file size) n = still t (op.HdrSize file size) n (device_same t file _)
file_after t (op.Persist file on) n = still t (op.Persist file on) n (device_same t file _)
file_after t (op.Learn file hash) n = still t (op.Learn file hash) n (learn_same t file hash)
file_after t (op.Tick now) n = still t (op.Tick now) n (tick_same t now)
file_after t (op.Steering file program) n = still t (op.Steering file program) n (device_same t file _)
file_after t (op.Filter file program) n = still t (op.Filter file program) n (device_same t file _)
file_after t (op.Back file side vhost) n = backs t file side vhost n
file_after t (op.Resize file capacity) n =
    one t (op.Resize file capacity) file (resized capacity (file_at t file)) refl (resize_one t file capacity)
    (resized_backer (file_at t file) capacity) n

-- ---- what follows

backed_home : (f : File) (side : Side) (vhost : Option ℕ) → home (backed side vhost f).attachment ≡ home f.attachment
backed_home f Rx vhost = refl
backed_home f Tx vhost = refl

new_backer : (side : Side) → backer side (new_file 0) ≡ None
new_backer Rx = refl
new_backer Tx = refl

-- a file that is attached afterwards was attached before, or the operation is about it
pub attached_before : (t : Table) (x : Op) (n device : ℕ) → device_of (after t x) n ≡ Some device
    → (device_of t n ≡ Some device) ⊎ (op_file x ≡ Some n)
attached_before t x n device e = go (file_after t x n)
  where
    go : FileAfter t x n → (device_of t n ≡ Some device) ⊎ (op_file x ≡ Some n)
    go (Still is) = inl (sym (ap (λ (f : File). home f.attachment) is) ∙ e)
    go (Fresh is) = absurd (none_some (sym (ap (λ (f : File). home f.attachment) is) ∙ e))
      where
        none_some : {A : Type 0} {a : A} → None ≡ Some a → ⊥
        none_some h = cc (h)
    go (Moved its keep) = inr its
    go (Backed side vhost xis is) =
        inl (sym (backed_home (file_at t n) side vhost) ∙ sym (ap (λ (f : File). home f.attachment) is) ∙ e)

-- a file that has a backend afterwards had it before, or the operation sets it
pub backed_before : (t : Table) (x : Op) (side : Side) (n vhost : ℕ) → backer side (file_at (after t x) n) ≡ Some vhost
    → (backer side (file_at t n) ≡ Some vhost) ⊎ (x ≡ op.Back n side (Some vhost))
backed_before t x side n vhost e = go (file_after t x n)
  where
    sides : (a b : Side) (o : Option ℕ) → x ≡ op.Back n b o → backer a (backed b o (file_at t n)) ≡ Some vhost
        → (backer a (file_at t n) ≡ Some vhost) ⊎ (x ≡ op.Back n a (Some vhost))
    sides Rx Rx o xis h = inr (xis ∙ ap (λ (q : Option ℕ). op.Back n Rx q) h)
    sides Tx Tx o xis h = inr (xis ∙ ap (λ (q : Option ℕ). op.Back n Tx q) h)
    sides Rx Tx o xis h = inl h
    sides Tx Rx o xis h = inl h

    go : FileAfter t x n → (backer side (file_at t n) ≡ Some vhost) ⊎ (x ≡ op.Back n side (Some vhost))
    go (Still is) = inl (sym (ap (backer side) is) ∙ e)
    go (Fresh is) = absurd (none_some (sym (new_backer side) ∙ sym (ap (backer side) is) ∙ e))
      where
        none_some : {A : Type 0} {a : A} → None ≡ Some a → ⊥
        none_some h = cc (h)
    go (Moved its keep) = inl (sym (keep side) ∙ e)
    go (Backed other o xis is) = sides side other o xis (sym (ap (backer side) is) ∙ e)
