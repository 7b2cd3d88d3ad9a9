-- What an operation on the queue table makes of its files.
use Rattle.std.proofs.Common.{◌≡◌, ◌≢◌, ◌⊎◌, ℕ, ◌<◌, ◌≤◌, List, length, get_or, set, Bool, true, false, Option, Some, None, inl, inr, ⊎_elim, refl, sym, ap, ◌∙◌, subst, true≢false}
use Rattle.std.specs.Prelude.{if◌then◌else◌, not, is_some}
use Rattle.std.proofs.lemmas.Bool.{cases_lt}
use Rattle.std.proofs.lemmas.List.{get_or-set_other, get_or-set_same, get_or_past, length-set}
use Rattle.tap_ledger.specs.declared.side.Side.{Side}
use Rattle.tap_ledger.specs.declared.error.TapErr.{TapErr}
use Rattle.tap_steer.specs.declared.files.Attachment.{Attachment}
use Rattle.tap_steer.specs.declared.files.Attachment.TheVariants.{Disabled, Enabled, Unattached}
use Rattle.tap_steer.specs.declared.files.File.{File}
use Rattle.tap_steer.specs.declared.operation.Op.{Op}
use Rattle.tap_steer.specs.declared.operation.Op.TheVariants as op
use Rattle.tap_steer.specs.declared.operation.TheConstants.{IFF_ATTACH_QUEUE, IFF_DETACH_QUEUE}
use Rattle.tap_steer.specs.declared.settings.Settings.{Settings}
use Rattle.tap_steer.specs.Table.{Table, device_of, file_at, home, is_disabled, is_set, new_file}
use Rattle.tap_ground.specs.Options.{first_that_holds as first_broken}
use Rattle.tap_steer.specs.Rules.{attach_rules, backer, detach_rules, has_device, no_flag_rules, refuse}
use Rattle.tap_steer.specs.After.{after, attach_queue, attached_file, back, backed, detach_queue, disabled, enabled, learn, learn_at, left, resize, resized, set_at, set_device, set_iff, shut, standing, tick}
use Rattle.tap_world.specs.StepTable.{is_enabled}

-- the files are the same, or one of them is another
pub data Files (t u : Table) : Type 0 where
  Same : u.files ≡ t.files → Files t u
  One : (file : ℕ) (g : File) → u.files ≡ set t.files file g → Files t u

pub at_files : (t u : Table) → u.files ≡ t.files → (n : ℕ) → file_at u n ≡ file_at t n
at_files t u is n = ap (λ (fs : List File). get_or fs n (new_file 0)) is

pub many : (t u : Table) → Files t u → length u.files ≡ length t.files
many t u (Same is) = ap (λ (fs : List File). length fs) is
many t u (One file g is) = ap (λ (fs : List File). length fs) is ∙ length-set t.files file g

-- the file that changes, and the others
pub one_here : (t u : Table) (file : ℕ) (g : File) → u.files ≡ set t.files file g → file < length t.files → file_at u file ≡ g
one_here t u file g is h = ap (λ (fs : List File). get_or fs file (new_file 0)) is ∙ get_or-set_same t.files file g (new_file 0) h

pub one_there : (t u : Table) (file : ℕ) (g : File) → u.files ≡ set t.files file g → (n : ℕ) → n ≢ file → file_at u n ≡ file_at t n
one_there t u file g is n no_ = ap (λ (fs : List File). get_or fs n (new_file 0)) is ∙ get_or-set_other t.files file n g (new_file 0) no_

pub past : (t : Table) (file : ℕ) → length t.files ≤ file → file_at t file ≡ new_file 0
past t file h = get_or_past t.files file (new_file 0) h

-- ---- each operation

settings_same : (t : Table) (o : Option ℕ) (change : Settings → Settings) → (set_at o t change).files ≡ t.files
settings_same t None change = refl
settings_same t (Some device) change = refl

pub device_same : (t : Table) (file : ℕ) (change : Settings → Settings) → (set_device t file change).files ≡ t.files
unfolding set_device
device_same t file change = settings_same t (device_of t file) change

learn_same_at : (t : Table) (a : Attachment) (file hash : ℕ) → (learn_at a t file hash).files ≡ t.files
learn_same_at t (Enabled device) file hash = refl
learn_same_at t (Disabled device) file hash = refl
learn_same_at t Unattached file hash = refl

pub learn_same : (t : Table) (file hash : ℕ) → (learn t file hash).files ≡ t.files
unfolding learn
learn_same t file hash = learn_same_at t (file_at t file).attachment file hash

pub tick_same : (t : Table) (now : ℕ) → (tick t now).files ≡ t.files
unfolding tick
tick_same t now = refl

pub set_iff_one : (t : Table) (file device flags : ℕ) → (set_iff t file device flags).files ≡ set t.files file (attached_file (file_at t file) device)
unfolding set_iff
set_iff_one t file device flags = refl

enabled_one : (t : Table) (file device : ℕ) (a : Attachment) → a ≡ Disabled device → (enabled a t file).files ≡ set t.files file (attached_file (file_at t file) device)
enabled_one t file device a is = subst (λ (q : Attachment). (enabled q t file).files ≡ set t.files file (attached_file (file_at t file) device)) (sym is) refl

pub attach_one : (t : Table) (file device : ℕ) → (file_at t file).attachment ≡ Disabled device → (attach_queue t file).files ≡ set t.files file (attached_file (file_at t file) device)
unfolding attach_queue
attach_one t file device is = enabled_one t file device (file_at t file).attachment is

disabled_one : (t : Table) (file device : ℕ) (a : Attachment) → a ≡ Enabled device → (disabled a t file).files ≡ set t.files file (standing (Disabled device) (file_at t file))
disabled_one t file device a is = subst (λ (q : Attachment). (disabled q t file).files ≡ set t.files file (standing (Disabled device) (file_at t file))) (sym is) refl

pub detach_one : (t : Table) (file device : ℕ) → (file_at t file).attachment ≡ Enabled device → (detach_queue t file).files ≡ set t.files file (standing (Disabled device) (file_at t file))
unfolding detach_queue
detach_one t file device is = disabled_one t file device (file_at t file).attachment is

left_by : (t : Table) (file : ℕ) (a : Attachment) → ((left a t file).files ≡ t.files) ⊎ ((left a t file).files ≡ set t.files file (standing Unattached (file_at t file)))
left_by t file (Enabled device) = inr refl
left_by t file (Disabled device) = inr refl
left_by t file Unattached = inl refl

pub shut_by : (t : Table) (file : ℕ) → ((shut t file).files ≡ t.files) ⊎ ((shut t file).files ≡ set t.files file (standing Unattached (file_at t file)))
unfolding shut
shut_by t file = left_by t file (file_at t file).attachment

left_one : (t : Table) (file device : ℕ) (a : Attachment) → a ≡ Enabled device → (left a t file).files ≡ set t.files file (standing Unattached (file_at t file))
left_one t file device a is = subst (λ (q : Attachment). (left q t file).files ≡ set t.files file (standing Unattached (file_at t file))) (sym is) refl

pub shut_one : (t : Table) (file device : ℕ) → (file_at t file).attachment ≡ Enabled device → (shut t file).files ≡ set t.files file (standing Unattached (file_at t file))
unfolding shut
shut_one t file device is = left_one t file device (file_at t file).attachment is

pub back_one : (t : Table) (file : ℕ) (side : Side) (vhost : Option ℕ) → (back t file side vhost).files ≡ set t.files file (backed side vhost (file_at t file))
unfolding back
back_one t file side vhost = refl

pub resize_one : (t : Table) (file capacity : ℕ) → (resize t file capacity).files ≡ set t.files file (resized capacity (file_at t file))
unfolding resize
resize_one t file capacity = refl

-- ---- all of them

enabled_files : (t : Table) (file : ℕ) (a : Attachment) → Files t (enabled a t file)
enabled_files t file (Disabled device) = One file (attached_file (file_at t file) device) refl
enabled_files t file (Enabled device) = Same refl
enabled_files t file Unattached = Same refl

disabled_files : (t : Table) (file : ℕ) (a : Attachment) → Files t (disabled a t file)
disabled_files t file (Enabled device) = One file (standing (Disabled device) (file_at t file)) refl
disabled_files t file (Disabled device) = Same refl
disabled_files t file Unattached = Same refl

attach_files : (t : Table) (file : ℕ) → Files t (attach_queue t file)
unfolding attach_queue
attach_files t file = enabled_files t file (file_at t file).attachment

detach_files : (t : Table) (file : ℕ) → Files t (detach_queue t file)
unfolding detach_queue
detach_files t file = disabled_files t file (file_at t file).attachment

queue_files : (t : Table) (file : ℕ) (b : Bool) → Files t (if b then attach_queue t file else detach_queue t file)
queue_files t file true = attach_files t file
queue_files t file false = detach_files t file

pub files_after : (t : Table) (x : Op) → Files t (after t x)
files_after t (op.SetIff file device flags) = One file _ (set_iff_one t file device flags)
files_after t (op.SetQueue file flags) = queue_files t file (is_set flags IFF_ATTACH_QUEUE)
files_after t (op.Shut file) = ⊎_elim (λ is. Same is) (λ is. One file _ is) (shut_by t file)
files_after t (op.HdrSize file size) = Same (device_same t file _)
files_after t (op.Persist file on) = Same (device_same t file _)
files_after t (op.Learn file hash) = Same (learn_same t file hash)
files_after t (op.Tick now) = Same (tick_same t now)
files_after t (op.Steering file program) = Same (device_same t file _)
files_after t (op.Filter file program) = Same (device_same t file _)
files_after t (op.Back file side vhost) = One file _ (back_one t file side vhost)
files_after t (op.Resize file capacity) = One file _ (resize_one t file capacity)

-- ---- what an operation that isn't refused found

passed : (b : Bool) (r : TapErr) (rest : Option TapErr) → (if b then Some r else rest) ≡ None → (b ≡ false) × (rest ≡ None)
passed true r rest e = absurd (cc (e))
passed false r rest e = (refl, e)

not_true : (b : Bool) → not b ≡ false → b ≡ true
not_true true e = refl
not_true false e = absurd (true≢false e)

disabled_is : (a : Attachment) → is_disabled a ≡ true → (device : ℕ) × (a ≡ Disabled device)
disabled_is (Disabled device) e = (device, refl)
disabled_is (Enabled device) e = absurd (true≢false (sym e))
disabled_is Unattached e = absurd (true≢false (sym e))

pub enabled_is : (a : Attachment) → is_enabled a ≡ true → (device : ℕ) × (a ≡ Enabled device)
enabled_is (Enabled device) e = (device, refl)
enabled_is (Disabled device) e = absurd (true≢false (sym e))
enabled_is Unattached e = absurd (true≢false (sym e))

-- an attach finds its queue disabled
pub attach_finds : (t : Table) (file flags : ℕ) → refuse t (op.SetQueue file flags) ≡ None → is_set flags IFF_ATTACH_QUEUE ≡ true
    → (device : ℕ) × ((file_at t file).attachment ≡ Disabled device)
unfolding refuse attach_rules
attach_finds t file flags e is =
    let it : first_broken (attach_rules t file) ≡ None =
    subst (λ (b : Bool). first_broken (if b then attach_rules t file else (if is_set flags IFF_DETACH_QUEUE then detach_rules t file else no_flag_rules)) ≡ None) is e in
    disabled_is (file_at t file).attachment (not_true _ (passed _ _ _ it).0)

-- and a detach finds it enabled
enabled_by : (a : Attachment) → not (is_some (home a)) ≡ false → is_disabled a ≡ false → is_enabled a ≡ true
enabled_by Unattached h k = absurd (true≢false h)
enabled_by (Enabled device) h k = refl
enabled_by (Disabled device) h k = absurd (true≢false k)

detach_passed : (t : Table) (file : ℕ) (b : Bool) → first_broken (if b then detach_rules t file else no_flag_rules) ≡ None → is_enabled (file_at t file).attachment ≡ true
unfolding detach_rules
detach_passed t file true e =
    let a = passed _ _ _ e in
    let b = passed _ _ _ a.1 in
    let c = passed _ _ _ b.1 in
    enabled_by (file_at t file).attachment a.0 c.0
detach_passed t file false e = absurd (cc (e))

pub detach_finds : (t : Table) (file flags : ℕ) → refuse t (op.SetQueue file flags) ≡ None → is_set flags IFF_ATTACH_QUEUE ≡ false → is_enabled (file_at t file).attachment ≡ true
unfolding refuse
detach_finds t file flags e is =
    detach_passed t file (is_set flags IFF_DETACH_QUEUE)
    (subst (λ (b : Bool). first_broken (if b then attach_rules t file else (if is_set flags IFF_DETACH_QUEUE then detach_rules t file else no_flag_rules)) ≡ None) is e)

-- a file that is enabled, or has a device, is one of the table
pub enabled_there : (t : Table) (file : ℕ) → is_enabled (file_at t file).attachment ≡ true → file < length t.files
enabled_there t file e = elim (cases_lt file (length t.files)) [
  | inl h ↦ h
  | inr h ↦ absurd (true≢false (sym e ∙ ap (λ (f : File). is_enabled f.attachment) (past t file h)))
]

device_there : (t : Table) (file : ℕ) → has_device t file ≡ true → file < length t.files
device_there t file e = elim (cases_lt file (length t.files)) [
  | inl h ↦ h
  | inr h ↦ absurd (true≢false (sym e ∙ ap (λ (f : File). is_some (home f.attachment)) (past t file h)))
]

none_back : (o : Option ℕ) → is_some o ≡ false → o ≡ None
none_back None e = refl
none_back (Some n) e = absurd (true≢false e)

-- a backend finds its side free
pub back_finds : (t : Table) (file : ℕ) (side : Side) (vhost : ℕ) → refuse t (op.Back file side (Some vhost)) ≡ None
    → (file < length t.files) × (backer side (file_at t file) ≡ None)
unfolding refuse
back_finds t file side vhost e =
    let a = passed _ _ _ e in
    let b = passed _ _ _ a.1 in
    (device_there t file (not_true _ a.0), none_back (backer side (file_at t file)) b.0)
