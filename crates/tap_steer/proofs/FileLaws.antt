-- What operations make of one file: its epoch, its device and its backends.
use Rattle.std.proofs.Common.{◌≡◌, ◌⊎◌, ℕ, zero, suc, ◌+◌, ◌<◌, ◌≤◌, Bool, true, false, not, ◌||◌, cond, List, [], ◌∷◌, length, map, get_or, set, Option, Some, None, inl, inr, refl, sym, ap, subst, ◌∙◌, true≢false, arith, length-set}
use Rattle.std.specs.Prelude.{is_some}
use Rattle.std.proofs.lemmas.Bool.{cases_eq, cases_lt, leb-false}
use Rattle.std.proofs.lemmas.List.{get_or_past}
use Rattle.tap_ledger.specs.declared.side.Side.{Side}
use Rattle.tap_ledger.specs.declared.side.Side.TheVariants.{Rx, Tx}
use Rattle.tap_steer.specs.declared.files.Attachment.{Attachment}
use Rattle.tap_steer.specs.declared.files.Attachment.TheVariants.{Unattached, Enabled, Disabled}
use Rattle.tap_steer.specs.declared.files.File.{File}
use Rattle.tap_steer.specs.declared.operation.Op.{Op}
use Rattle.tap_steer.specs.declared.operation.Op.TheVariants as op
use Rattle.tap_steer.specs.declared.operation.TheConstants.{IFF_ATTACH_QUEUE, IFF_DETACH_QUEUE}
use Rattle.tap_steer.specs.declared.settings.Settings.{Settings}
use Rattle.tap_steer.specs.Table.{Table, new_file, first, file_at, device_of, home, is_enabled, is_set, with_file}
use Rattle.tap_ground.specs.Options.{first_that_holds}
use Rattle.tap_steer.specs.Rules.{attach_rules, detach_rules, no_flag_rules, has_device, is_backed, refuse, resize_rules, set_iff_rules, shut_rules}
use Rattle.tap_steer.specs.After.{attached_file, backed, standing, set_iff, enabled, disabled, left, attach_queue, detach_queue, shut, set_at, set_device, learn_at, learn, tick, back, resized, resize, after, after_all}
use Rattle.tap_steer.specs.Laws.{AreLawful, HaveNumbersLeft, IsInUse, StaysOrIsEnabled, StaysOrIsResized}
use Rattle.tap_steer.proofs.SoundLemmas.{file_same, file_other}
use Rattle.tap_steer.proofs.Lawful.{all_unbroken, join_has_epoch}

-- ---- one file changes, or none

-- what is so of a file and of what becomes of it
module _ (P : File → File → Type 0) (same : (f : File) → P f f) where
  abbrev pub Each : Table → Table → Type 0
  Each t u = (g : ℕ) → P (file_at t g) (file_at u g)

  pub still : (t u : Table) → u.files ≡ t.files → Each t u
  still t u e g = subst (λ (fs : List File). P (file_at t g) (get_or fs g (new_file 0))) (sym e) (same (file_at t g))

  -- a file past the end stays as it is
  past_end : (t : Table) (file : ℕ) (x : File) → length t.files ≤ file → file_at (with_file t file x) file ≡ file_at t file
  past_end t file x past =
      let longer : length (set t.files file x) ≤ file = omega (arith, length-set t.files file x, past) in
      get_or_past (set t.files file x) file (new_file 0) longer ∙ sym (get_or_past t.files file (new_file 0) past)

  pub one : (t : Table) (file : ℕ) (x : File) → P (file_at t file) x → Each t (with_file t file x)
  one t file x it g = elim (cases_eq g file) [
    | inr apart ↦ subst (λ (y : File). P (file_at t g) y) (sym (file_other t file x g apart)) (same (file_at t g))
    | inl is ↦ subst (λ (n : ℕ). P (file_at t n) (file_at (with_file t file x) n)) (sym is) (elim (cases_lt file (length t.files)) [
      | inl inside ↦ subst (λ (y : File). P (file_at t file) y) (sym (file_same t file x inside)) it
      | inr past ↦ subst (λ (y : File). P (file_at t file) y) (sym (past_end t file x past)) (same (file_at t file))
    ])
  ]

-- files stay where devices alone change
set_at_files : (t : Table) (o : Option ℕ) (change : Settings → Settings) → (set_at o t change).files ≡ t.files
set_at_files t None change = refl
set_at_files t (Some k) change = refl

pub set_files : (t : Table) (file : ℕ) (change : Settings → Settings) → (set_device t file change).files ≡ t.files
unfolding set_device
set_files t file change = set_at_files t (device_of t file) change

learn_at_files : (t : Table) (a : Attachment) (file hash : ℕ) → (learn_at a t file hash).files ≡ t.files
learn_at_files t Unattached file hash = refl
learn_at_files t (Enabled k) file hash = refl
learn_at_files t (Disabled k) file hash = refl

pub learn_files : (t : Table) (file hash : ℕ) → (learn t file hash).files ≡ t.files
unfolding learn
learn_files t file hash = learn_at_files t (file_at t file).attachment file hash

pub tick_files : (t : Table) (now : ℕ) → (tick t now).files ≡ t.files
unfolding tick
tick_files t now = refl

-- ---- every operation, for what holds of each change of a file

-- what an operation may make of a file, where a close and a backend are free to go
pub record Changes (t : Table) (Free : Op → Type 0) (P : File → File → Type 0) : Type 0 where
  pub same : (f : File) → P f f
  pub attaches : (f : File) (device : ℕ) → P f (attached_file f device)
  pub disables : (f : File) (device : ℕ) → f.attachment ≡ Enabled device → P f (standing (Disabled device) f)
  pub closes : (file : ℕ) → Free (op.Shut file) → P (file_at t file) (standing Unattached (file_at t file))
  pub backs : (file : ℕ) (side : Side) (vhost : Option ℕ) → Free (op.Back file side vhost) → P (file_at t file) (backed side vhost (file_at t file))
  pub resizes : (f : File) (capacity : ℕ) → P f (resized capacity f)

module _ (t : Table) (Free : Op → Type 0) (P : File → File → Type 0) (c : Changes t Free P) where
  goes : (u : Table) → u.files ≡ t.files → (g : ℕ) → P (file_at t g) (file_at u g)
  goes u e g = still P c.same t u e g

  sets : (file : ℕ) (x : File) → P (file_at t file) x → (u : Table) → u.files ≡ set t.files file x → (g : ℕ) → P (file_at t g) (file_at u g)
  sets file x it u e g = subst (λ (fs : List File). P (file_at t g) (get_or fs g (new_file 0))) (sym e) (one P c.same t file x it g)

  enabled_goes : (file : ℕ) (a : Attachment) (g : ℕ) → P (file_at t g) (file_at (enabled a t file) g)
  enabled_goes file Unattached g = c.same (file_at t g)
  enabled_goes file (Enabled k) g = c.same (file_at t g)
  enabled_goes file (Disabled k) g = sets file (attached_file (file_at t file) k) (c.attaches (file_at t file) k) (enabled (Disabled k) t file) refl g

  disabled_goes : (file : ℕ) (a : Attachment) → (file_at t file).attachment ≡ a → (g : ℕ) → P (file_at t g) (file_at (disabled a t file) g)
  disabled_goes file Unattached is g = c.same (file_at t g)
  disabled_goes file (Enabled k) is g = sets file (standing (Disabled k) (file_at t file)) (c.disables (file_at t file) k is) (disabled (Enabled k) t file) refl g
  disabled_goes file (Disabled k) is g = c.same (file_at t g)

  left_goes : (file : ℕ) (a : Attachment) → Free (op.Shut file) → (g : ℕ) → P (file_at t g) (file_at (left a t file) g)
  left_goes file Unattached free g = c.same (file_at t g)
  left_goes file (Enabled k) free g = sets file (standing Unattached (file_at t file)) (c.closes file free) (left (Enabled k) t file) refl g
  left_goes file (Disabled k) free g = sets file (standing Unattached (file_at t file)) (c.closes file free) (left (Disabled k) t file) refl g

  attach_goes : (file g : ℕ) → P (file_at t g) (file_at (attach_queue t file) g)
  unfolding attach_queue
  attach_goes file g = enabled_goes file (file_at t file).attachment g

  detach_goes : (file g : ℕ) → P (file_at t g) (file_at (detach_queue t file) g)
  unfolding detach_queue
  detach_goes file g = disabled_goes file (file_at t file).attachment refl g

  shut_goes : (file : ℕ) → Free (op.Shut file) → (g : ℕ) → P (file_at t g) (file_at (shut t file) g)
  unfolding shut
  shut_goes file free g = left_goes file (file_at t file).attachment free g

  set_iff_goes : (file device flags g : ℕ) → P (file_at t g) (file_at (set_iff t file device flags) g)
  unfolding set_iff
  set_iff_goes file device flags g = sets file (attached_file (file_at t file) device) (c.attaches (file_at t file) device) (set_iff t file device flags) refl g

  back_goes : (file : ℕ) (side : Side) (vhost : Option ℕ) → Free (op.Back file side vhost) → (g : ℕ) → P (file_at t g) (file_at (back t file side vhost) g)
  unfolding back
  back_goes file side vhost free g = sets file (backed side vhost (file_at t file)) (c.backs file side vhost free) (back t file side vhost) refl g

  resize_goes : (file capacity g : ℕ) → P (file_at t g) (file_at (resize t file capacity) g)
  unfolding resize
  resize_goes file capacity g = sets file (resized capacity (file_at t file)) (c.resizes (file_at t file) capacity) (resize t file capacity) refl g

  queue_goes : (b : Bool) (file g : ℕ) → P (file_at t g) (file_at (cond b (attach_queue t file) (detach_queue t file)) g)
  queue_goes true file g = attach_goes file g
  queue_goes false file g = detach_goes file g

  pub changes_each : (o : Op) → Free o → (g : ℕ) → P (file_at t g) (file_at (after t o) g)
  changes_each (op.SetIff file device flags) free g = set_iff_goes file device flags g
  changes_each (op.SetQueue file flags) free g = queue_goes (is_set flags IFF_ATTACH_QUEUE) file g
  changes_each (op.Shut file) free g = shut_goes file free g
  changes_each (op.HdrSize file size) free g = goes (after t (op.HdrSize file size)) (set_files t file _) g
  changes_each (op.Persist file on) free g = goes (after t (op.Persist file on)) (set_files t file _) g
  changes_each (op.Learn file hash) free g = goes (learn t file hash) (learn_files t file hash) g
  changes_each (op.Tick now) free g = goes (tick t now) (tick_files t now) g
  changes_each (op.Steering file program) free g = goes (after t (op.Steering file program)) (set_files t file _) g
  changes_each (op.Filter file program) free g = goes (after t (op.Filter file program)) (set_files t file _) g
  changes_each (op.Back file side vhost) free g = back_goes file side vhost free g
  changes_each (op.Resize file capacity) free g = resize_goes file capacity g

-- ---- epochs

abbrev Any : Op → Type 0
Any o = Unit {0}

backed_stands : (side : Side) (vhost : Option ℕ) (f : File) → (backed side vhost f).attachment ≡ f.attachment
backed_stands Rx vhost f = refl
backed_stands Tx vhost f = refl

backed_sizes : (side : Side) (vhost : Option ℕ) (f : File) → ((backed side vhost f).resizes ≡ f.resizes) × ((backed side vhost f).capacity ≡ f.capacity)
backed_sizes Rx vhost f = (refl, refl)
backed_sizes Tx vhost f = (refl, refl)

backed_epoch : (side : Side) (vhost : Option ℕ) (f : File) → (backed side vhost f).epoch ≡ f.epoch
backed_epoch Rx vhost f = refl
backed_epoch Tx vhost f = refl

rising : (t : Table) → Changes t Any StaysOrIsEnabled
rising t = record {
  same = λ f. inl (refl, λ e. e);
  attaches = λ f device. inr (refl, refl);
  disables = λ f device is. inl (refl, λ e. absurd (true≢false (sym e)));
  closes = λ file free. inl (refl, λ e. absurd (true≢false (sym e)));
  backs = λ file side vhost free. inl
      (backed_epoch side vhost (file_at t file), λ e. sym (ap is_enabled (backed_stands side vhost (file_at t file))) ∙ e);
  resizes = λ f capacity. inl (refl, λ e. e);
}

resizing : (t : Table) → Changes t Any StaysOrIsResized
resizing t = record {
  same = λ f. inl (refl, refl);
  attaches = λ f device. inl (refl, refl);
  disables = λ f device is. inl (refl, refl);
  closes = λ file free. inl (refl, refl);
  backs = λ file side vhost free. inl (backed_sizes side vhost (file_at t file));
  resizes = λ f capacity. inr refl;
}

pub resizes_rise_by_one : (t : Table) (operation : Op) (file : ℕ) → StaysOrIsResized (file_at t file) (file_at (after t operation) file)
resizes_rise_by_one t operation file = changes_each t Any StaysOrIsResized (resizing t) operation tt file

pub epochs_rise_by_one : (t : Table) (operation : Op) (file : ℕ) → StaysOrIsEnabled (file_at t file) (file_at (after t operation) file)
epochs_rise_by_one t operation file = changes_each t Any StaysOrIsEnabled (rising t) operation tt file

-- a file is later than another
abbrev IsLater : File → File → Type 0
IsLater f g = f.epoch ≤ g.epoch

later : (f g : File) → StaysOrIsEnabled f g → IsLater f g
later f g (inl stays) = omega (arith, stays.0)
later f g (inr rises) = omega (arith, rises.0)

pub epochs_never_fall : (t : Table) (operations : List Op) (file : ℕ) → (file_at t file).epoch ≤ (file_at (after_all t operations) file).epoch
epochs_never_fall t [] file = omega arith
epochs_never_fall t (o ∷ os) file =
    let first_step : IsLater (file_at t file) (file_at (after t o) file) = later (file_at t file) (file_at (after t o) file) (epochs_rise_by_one t o file) in
    omega (arith, first_step, epochs_never_fall (after t o) os file)

-- ---- devices and backends

-- a file in use stays one
abbrev StaysInUse : File → File → Type 0
StaysInUse f g = IsInUse f → IsInUse g

abbrev Lawful : Table → Op → Type 0
Lawful t o = refuse t o ≡ None

or_none : (x y : Bool) → (x || y) ≡ true → x ≡ false → y ≡ false → true ≡ false
or_none true y h a b = a
or_none false true h a b = b
or_none false false h a b = sym h

-- a file that is closed is no backend
unbacked : (t : Table) (file : ℕ) → refuse t (op.Shut file) ≡ None → is_backed (file_at t file) ≡ false
unfolding refuse
unbacked t file free = (all_unbroken (shut_rules t file) free).0

not_false : (b : Bool) → not b ≡ false → b ≡ true
not_false true h = refl
not_false false h = absurd (true≢false h)

-- a file that becomes a backend has a device
has_one : (t : Table) (file : ℕ) (side : Side) (vhost : ℕ) → refuse t (op.Back file side (Some vhost)) ≡ None → is_some (home (file_at t file).attachment) ≡ true
unfolding refuse
has_one t file side vhost free = not_false (has_device t file) (all_unbroken ((not (has_device t file), _) ∷ (_, _) ∷ []) free).0

or_left : (x y : Bool) → x ≡ true → (x || y) ≡ true
or_left true y h = refl
or_left false y h = absurd (true≢false (sym h))

or_right : (x y : Bool) → y ≡ true → (x || y) ≡ true
or_right true y h = refl
or_right false y h = h

-- the other side stays as it is
less_backed : (side : Side) (f : File) → is_backed (backed side None f) ≡ true → is_backed f ≡ true
less_backed Rx f h = or_right (is_some f.rx) (is_some f.tx) h
less_backed Tx f h = or_left (is_some f.rx) (is_some f.tx) (only f.rx h)
  where
    only : (o : Option ℕ) → (is_some o || false) ≡ true → is_some o ≡ true
    only (Some v) h = refl
    only None h = h

backed_home : (side : Side) (vhost : Option ℕ) (f : File) → home (backed side vhost f).attachment ≡ home f.attachment
backed_home Rx vhost f = refl
backed_home Tx vhost f = refl

backs_in_use : (t : Table) (file : ℕ) (side : Side) (vhost : Option ℕ) → refuse t (op.Back file side vhost) ≡ None → StaysInUse (file_at t file) (backed side vhost (file_at t file))
backs_in_use t file side None free is = record {
  numbered = λ h. subst (λ (n : ℕ). 0 < n) (sym (backed_epoch side None (file_at t file)))
      (is.numbered (sym (ap (λ (o : Option ℕ). is_some o) (backed_home side None (file_at t file))) ∙ h));
  backed = λ h. ap (λ (o : Option ℕ). is_some o) (backed_home side None (file_at t file)) ∙ is.backed (less_backed side (file_at t file) h);
}
backs_in_use t file side (Some vhost) free is = record {
  numbered = λ h. subst (λ (n : ℕ). 0 < n) (sym (backed_epoch side (Some vhost) (file_at t file)))
      (is.numbered (sym (ap (λ (o : Option ℕ). is_some o) (backed_home side (Some vhost) (file_at t file))) ∙ h));
  backed = λ h. ap (λ (o : Option ℕ). is_some o) (backed_home side (Some vhost) (file_at t file)) ∙ has_one t file side vhost free;
}

in_use : (t : Table) → Changes t (Lawful t) StaysInUse
in_use t = record {
  same = λ f is. is;
  attaches = λ f device is. record { numbered = λ h. omega arith; backed = λ h. refl };
  disables = λ f device at is. record { numbered = λ h. is.numbered (ap (λ a. is_some (home a)) at); backed = λ h. refl };
  closes = λ file free is. record { numbered = λ h. absurd (true≢false (sym h)); backed = λ h. absurd (true≢false (sym h ∙ unbacked t file free)) };
  backs = λ file side vhost free. backs_in_use t file side vhost free;
  resizes = λ f capacity is. record { numbered = is.numbered; backed = is.backed };
}

all_in_use : (t : Table) (operations : List Op) → ((file : ℕ) → IsInUse (file_at t file)) → AreLawful t operations → (file : ℕ) → IsInUse (file_at (after_all t operations) file)
all_in_use t [] each lawful = each
all_in_use t (o ∷ os) each lawful =
    all_in_use (after t o) os (λ file. changes_each t (Lawful t) StaysInUse (in_use t) o lawful.1 file (each file)) lawful.2

new_in_use : (capacity : ℕ) → IsInUse (new_file capacity)
new_in_use capacity = record { numbered = λ h. absurd (true≢false (sym h)); backed = λ h. absurd (true≢false (sym h)) }

first_in_use : (capacities : List ℕ) (file : ℕ) → IsInUse (get_or (map new_file capacities) file (new_file 0))
first_in_use [] file = new_in_use 0
first_in_use (c ∷ cs) zero = new_in_use c
first_in_use (c ∷ cs) (suc file) = first_in_use cs file

pub files_are_in_use : (programs : List (List ℕ)) (capacities : List ℕ) (flows : List (ℕ × ℕ)) (operations : List Op) → AreLawful (first programs capacities flows) operations → (file : ℕ) → IsInUse (file_at (after_all (first programs capacities flows) operations) file)
unfolding first
files_are_in_use programs capacities flows operations lawful =
    all_in_use (first programs capacities flows) operations (first_in_use capacities) lawful

-- ---- numbers that are left

attach_left : (t : Table) (file flags : ℕ) (b : Bool) → is_set flags IFF_ATTACH_QUEUE ≡ b → b ≡ true → refuse t (op.SetQueue file flags) ≡ None → first_that_holds (attach_rules t file) ≡ None
unfolding refuse
attach_left t file flags b is on free =
    subst (λ (c : Bool). first_that_holds (cond c (attach_rules t file) (cond (is_set flags IFF_DETACH_QUEUE) (detach_rules t file) no_flag_rules)) ≡ None) (is ∙ on) free

attach_epoch : (t : Table) (file : ℕ) → first_that_holds (attach_rules t file) ≡ None → (file_at t file).epoch < 65535
unfolding attach_rules
attach_epoch t file free = leb-false 65535 (file_at t file).epoch (all_unbroken (attach_rules t file) free).1.0

resize_number : (t : Table) (file capacity : ℕ) → refuse t (op.Resize file capacity) ≡ None → (file_at t file).resizes < 127
unfolding refuse
resize_number t file capacity free = leb-false 127 (file_at t file).resizes (all_unbroken (resize_rules t file) free).1.0

set_iff_number : (t : Table) (file device flags : ℕ) → refuse t (op.SetIff file device flags) ≡ None → (file_at t file).epoch < 65535
unfolding refuse
set_iff_number t file device flags free = join_has_epoch t file device flags free

pub numbers_are_left : (t : Table) (file : ℕ) → HaveNumbersLeft t file
numbers_are_left t file = record {
  attached = λ device flags. set_iff_number t file device flags;
  enabled = λ flags free on. attach_epoch t file (attach_left t file flags true on refl free);
  resized = λ capacity. resize_number t file capacity;
}
