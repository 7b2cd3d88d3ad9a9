-- The laws of the table.
use Rattle.std.proofs.Common.{◌≡◌, ℕ, ◌+◌, ◌<◌, ◌≤◌, suc, Bool, true, false, not, cond, List, [], ◌∷◌, length, get_or, Option, Some, None, sym, ap, subst, ◌∙◌, inl, inr, refl, arith, length-set}
use Rattle.std.specs.Prelude.{IfSome}
use Rattle.std.specs.Option.{option_and_then}
use Rattle.std.proofs.lemmas.Bool.{eq-eqb, ne_eqb, cases_eq, cases_lt, and_right}
use Rattle.std.proofs.lemmas.List.{get_or_past}
use Rattle.tap_queues.specs.declared.queues.Row.{Row}
use Rattle.tap_ledger.specs.declared.side.Side.{Side}
use Rattle.tap_ledger.specs.declared.side.Side.TheVariants.{Rx, Tx}
use Rattle.tap_steer.specs.declared.files.Attachment.{Attachment}
use Rattle.tap_steer.specs.declared.files.Attachment.TheVariants.{Unattached, Enabled, Disabled}
use Rattle.tap_steer.specs.declared.files.File.{File}
use Rattle.tap_steer.specs.declared.operation.Op.{Op}
use Rattle.tap_steer.specs.declared.operation.Op.TheVariants as op
use Rattle.tap_steer.specs.declared.operation.TheConstants.{IFF_ATTACH_QUEUE}
use Rattle.tap_steer.specs.declared.settings.Settings.{Settings}
use Rattle.tap_steer.specs.Table.{Table, Device, new_file, first, file_at, device_at, device_of, home, is_left, is_set, queue_count, with_file, changed}
use Rattle.tap_steer.specs.After.{attached_file, backed, standing, with_row, without_row, joined, found_left, set_iff, enabled, disabled, left, attach_queue, detach_queue, shut, if_kept, set_at, set_device, learn_at, learn, tick, back, resize, after, after_all}
use Rattle.tap_steer.specs.Named.{IsFile, IsNamed}
use Rattle.tap_steer.specs.Sound.{times, rows_of, disabled_of, enabled_in, disabled_in, disabled_files, IsGood, IsSound}
use Rattle.tap_steer.specs.Laws.{AreLawful, IsPersistentOrHasFile}
use Rattle.tap_steer.proofs.Homes.{IfSome-at, IfSome-each}
use Rattle.tap_steer.proofs.SoundLemmas.{device_same, file_same, file_other}
use Rattle.tap_steer.proofs.SoundOps.{sound_first, sound_after}

-- ---- every reached table is sound

all_sound : (t : Table) (operations : List Op) → IsSound t → AreLawful t operations → IsSound (after_all t operations)
all_sound t [] s lawful = s
all_sound t (o ∷ os) s lawful = all_sound (after t o) os (sound_after t o s lawful.0 lawful.1) lawful.2

pub reached_is_sound : (programs : List (List ℕ)) (capacities : List ℕ) (flows : List (ℕ × ℕ)) (operations : List Op) → length flows ≡ 64 → AreLawful (first programs capacities flows) operations → IsSound (after_all (first programs capacities flows) operations)
reached_is_sound programs capacities flows operations full lawful =
    all_sound (first programs capacities flows) operations (sound_first programs capacities flows full) lawful

-- ---- devices and their files

is_enabled : (k : ℕ) (a : Attachment) → 0 < enabled_in k a → home a ≡ Some k
is_enabled k Unattached h = absurd (omega arith)
is_enabled k (Disabled x) h = absurd (omega arith)
is_enabled k (Enabled x) h = elim (cases_eq x k) [
  | inl same ↦ ap Some same
  | inr apart ↦ let none : enabled_in k (Enabled x) ≡ 0 = ap (λ b. cond b 1 0) (ne_eqb x k apart) in absurd (omega arith)
]

is_disabled_in : (k : ℕ) (a : Attachment) → 0 < disabled_in k a → home a ≡ Some k
is_disabled_in k Unattached h = absurd (omega arith)
is_disabled_in k (Enabled x) h = absurd (omega arith)
is_disabled_in k (Disabled x) h = elim (cases_eq x k) [
  | inl same ↦ ap Some same
  | inr apart ↦ let none : disabled_in k (Disabled x) ≡ 0 = ap (λ b. cond b 1 0) (ne_eqb x k apart) in absurd (omega arith)
]

some_disabled : (k : ℕ) (files : List File) → 0 < disabled_files k files → (g : ℕ) × (home (get_or files g (new_file 0)).attachment ≡ Some k)
some_disabled k [] h = absurd (omega arith)
some_disabled k (f ∷ fs) h = elim (cases_lt 0 (disabled_in k f.attachment)) [
  | inl here ↦ (0, is_disabled_in k f.attachment here)
  | inr none ↦ let deeper = some_disabled k fs (omega arith) in (suc deeper.0, deeper.1)
]

some_enabled : (t : Table) → IsSound t → (k : ℕ) (rows : List Row) → rows_of (device_at t k) ≡ rows → 0 < length rows → (g : ℕ) × (device_of t g ≡ Some k)
some_enabled t s k [] e h = absurd (omega arith)
some_enabled t s k (row ∷ rows) e h =
    let one : times row.file (row ∷ rows) ≡ 1 + times row.file rows = ap (λ b. cond b 1 0 + times row.file rows) (eq-eqb row.file row.file refl) in
    let all : times row.file (rows_of (device_at t k)) ≡ times row.file (row ∷ rows) = ap (times row.file) e in
    (row.file, is_enabled k (file_at t row.file).attachment (omega (arith, s.rows k row.file)))

device_case : (t : Table) → IsSound t → (k : ℕ) (d : Device) → device_at t k ≡ Some d → (b : Bool) → d.settings.persistent ≡ b → IsPersistentOrHasFile t k d
device_case t s k d e true p = inl p
device_case t s k d e false p = elim (cases_lt 0 (length d.rows)) [
  | inl some ↦ inr (some_enabled t s k d.rows (ap rows_of e) some)
  | inr none ↦ elim (cases_lt 0 d.disabled) [
    | inl some ↦
        let all : disabled_of (device_at t k) ≡ d.disabled = ap disabled_of e in
        inr (some_disabled k t.files (omega (arith, s.disabled k)))
    | inr nothing ↦
        let good = IfSome-at (device_at t k) (IsGood (length t.programs) t.clock) d e (s.good k) in
        let empty : length d.rows + d.disabled ≡ 0 = omega arith in
        inl (good.kept (eq-eqb (queue_count d) 0 empty))
  ]
]

pub devices_have_files : (t : Table) → IsSound t → (device : ℕ) → IfSome (device_at t device) (IsPersistentOrHasFile t device)
devices_have_files t s k = IfSome-each (IsPersistentOrHasFile t k) (device_at t k) (λ d e. device_case t s k d e d.settings.persistent refl)

-- ---- persistence

kept_persistent : (d : Device) → d.settings.persistent ≡ true → if_kept d ≡ Some d
kept_persistent d p = ap (λ b. cond b None (Some d)) (and_right (is_left d) (not d.settings.persistent) (ap not p))

left_device : (t : Table) (file k : ℕ) (d : Device) (a : Attachment) → k < length t.names → device_at t k ≡ Some d → a ≡ Enabled k → d.settings.persistent ≡ true → device_at (left a t file) k ≡ Some (without_row file d)
left_device t file k d a below e at p =
    let change : Device → Option Device = λ x. if_kept (without_row file x) in
    ap (λ x. device_at (left x t file) k) at
    ∙ device_same (with_file t file (standing Unattached (file_at t file))) k (option_and_then change (device_at t k)) below
    ∙ ap (option_and_then change) e ∙ kept_persistent (without_row file d) p

pub stays_over_close : (t : Table) (file device : ℕ) (d : Device) → device < length t.names → device_at t device ≡ Some d → (file_at t file).attachment ≡ Enabled device → d.settings.persistent ≡ true → device_at (shut t file) device ≡ Some (without_row file d)
unfolding shut
stays_over_close t file k d below e at p = left_device t file k d (file_at t file).attachment below e at p

pub is_found_again : (t : Table) (file device flags : ℕ) (d : Device) → device < length t.names → device_at t device ≡ Some d → is_left d ≡ true → device_at (set_iff t file device flags) device ≡ Some (with_row file ((file_at t file).epoch + 1) (found_left flags d))
unfolding set_iff
is_found_again t file k flags d below e alone =
    let new : Option Device → Option Device = λ o. Some (with_row file ((file_at t file).epoch + 1) (joined flags o)) in
    device_same (with_file t file (attached_file (file_at t file) k)) k (new (device_at t k)) below
    ∙ ap new e
    ∙ ap (λ b. Some (with_row file ((file_at t file).epoch + 1) (cond b (found_left flags d) d))) alone

-- ---- what is named stays

record Keeps (t u : Table) : Type 0 where
  files : length u.files ≡ length t.files
  programs : u.programs ≡ t.programs

keeps_self : (t : Table) → Keeps t t
keeps_self t = record { files = refl; programs = refl }

keeps_file : (t : Table) (file : ℕ) (x : File) → Keeps t (with_file t file x)
keeps_file t file x = record { files = length-set t.files file x; programs = refl }

keeps_both : (t : Table) (file : ℕ) (x : File) (k : ℕ) (change : Device → Option Device) → Keeps t (changed (with_file t file x) k change)
keeps_both t file x k change = record { files = length-set t.files file x; programs = refl }

keeps_set_iff : (t : Table) (file device flags : ℕ) → Keeps t (set_iff t file device flags)
unfolding set_iff
keeps_set_iff t file device flags = record { files = length-set t.files file (attached_file (file_at t file) device); programs = refl }

keeps_enabled : (t : Table) (file : ℕ) (a : Attachment) → Keeps t (enabled a t file)
keeps_enabled t file Unattached = keeps_self t
keeps_enabled t file (Enabled k) = keeps_self t
keeps_enabled t file (Disabled k) = keeps_both t file (attached_file (file_at t file) k) k _

keeps_disabled : (t : Table) (file : ℕ) (a : Attachment) → Keeps t (disabled a t file)
keeps_disabled t file Unattached = keeps_self t
keeps_disabled t file (Enabled k) = keeps_both t file (standing (Disabled k) (file_at t file)) k _
keeps_disabled t file (Disabled k) = keeps_self t

keeps_left : (t : Table) (file : ℕ) (a : Attachment) → Keeps t (left a t file)
keeps_left t file Unattached = keeps_self t
keeps_left t file (Enabled k) = keeps_both t file (standing Unattached (file_at t file)) k _
keeps_left t file (Disabled k) = keeps_both t file (standing Unattached (file_at t file)) k _

keeps_attach : (t : Table) (file : ℕ) → Keeps t (attach_queue t file)
unfolding attach_queue
keeps_attach t file = keeps_enabled t file (file_at t file).attachment

keeps_detach : (t : Table) (file : ℕ) → Keeps t (detach_queue t file)
unfolding detach_queue
keeps_detach t file = keeps_disabled t file (file_at t file).attachment

keeps_shut : (t : Table) (file : ℕ) → Keeps t (shut t file)
unfolding shut
keeps_shut t file = keeps_left t file (file_at t file).attachment

keeps_case : (b : Bool) (t x y : Table) → Keeps t x → Keeps t y → Keeps t (cond b x y)
keeps_case true t x y p q = p
keeps_case false t x y p q = q

keeps_set_at : (t : Table) (o : Option ℕ) (change : Settings → Settings) → Keeps t (set_at o t change)
keeps_set_at t None change = keeps_self t
keeps_set_at t (Some k) change = record { files = refl; programs = refl }

keeps_set : (t : Table) (file : ℕ) (change : Settings → Settings) → Keeps t (set_device t file change)
unfolding set_device
keeps_set t file change = keeps_set_at t (device_of t file) change

keeps_learn_at : (t : Table) (a : Attachment) (file hash : ℕ) → Keeps t (learn_at a t file hash)
keeps_learn_at t Unattached file hash = keeps_self t
keeps_learn_at t (Enabled k) file hash = record { files = refl; programs = refl }
keeps_learn_at t (Disabled k) file hash = keeps_self t

keeps_learn : (t : Table) (file hash : ℕ) → Keeps t (learn t file hash)
unfolding learn
keeps_learn t file hash = keeps_learn_at t (file_at t file).attachment file hash

keeps_tick : (t : Table) (now : ℕ) → Keeps t (tick t now)
unfolding tick
keeps_tick t now = record { files = refl; programs = refl }

keeps_back : (t : Table) (file : ℕ) (side : Side) (vhost : Option ℕ) → Keeps t (back t file side vhost)
unfolding back
keeps_back t file side vhost = keeps_file t file (backed side vhost (file_at t file))

keeps_resize : (t : Table) (file capacity : ℕ) → Keeps t (resize t file capacity)
unfolding resize
keeps_resize t file capacity = keeps_file t file _

keeps : (t : Table) (o : Op) → Keeps t (after t o)
keeps t (op.SetIff file device flags) = keeps_set_iff t file device flags
keeps t (op.SetQueue file flags) = keeps_case (is_set flags IFF_ATTACH_QUEUE) t (attach_queue t file) (detach_queue t file) (keeps_attach t file) (keeps_detach t file)
keeps t (op.Shut file) = keeps_shut t file
keeps t (op.HdrSize file size) = keeps_set t file _
keeps t (op.Persist file on) = keeps_set t file _
keeps t (op.Learn file hash) = keeps_learn t file hash
keeps t (op.Tick now) = keeps_tick t now
keeps t (op.Steering file program) = keeps_set t file _
keeps t (op.Filter file program) = keeps_set t file _
keeps t (op.Back file side vhost) = keeps_back t file side vhost
keeps t (op.Resize file capacity) = keeps_resize t file capacity

still : (t u : Table) → Keeps t u → (file : ℕ) → IsFile t file → IsFile u file
still t u k file h = subst (λ n. file < n) (sym k.files) h

still_place : (t u : Table) → Keeps t u → (program : Option ℕ) → IfSome program (λ p. p < length t.programs) → IfSome program (λ p. p < length u.programs)
still_place t u k program h = subst (λ (ps : List (List ℕ)). IfSome program (λ p. p < length ps)) (sym k.programs) h

named_in : (t u : Table) → Keeps t u → (o : Op) → IsNamed t o → IsNamed u o
named_in t u k (op.SetIff file device flags) h = (still t u k file h.0, h.1)
named_in t u k (op.SetQueue file flags) h = still t u k file h
named_in t u k (op.Shut file) h = still t u k file h
named_in t u k (op.HdrSize file size) h = still t u k file h
named_in t u k (op.Persist file on) h = still t u k file h
named_in t u k (op.Learn file hash) h = still t u k file h
named_in t u k (op.Tick now) h = tt
named_in t u k (op.Steering file program) h = (still t u k file h.0, still_place t u k program h.1)
named_in t u k (op.Filter file program) h = (still t u k file h.0, still_place t u k program h.1)
named_in t u k (op.Back file side vhost) h = still t u k file h
named_in t u k (op.Resize file capacity) h = (still t u k file h.0, h.1, h.2)

pub names_stay : (t : Table) (operation other : Op) → IsNamed t other → IsNamed (after t operation) other
names_stay t o other h = named_in t (after t o) (keeps t o) other h
