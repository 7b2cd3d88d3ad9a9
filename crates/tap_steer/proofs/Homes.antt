-- The device of a file exists, and is one of the names.
use Rattle.std.proofs.Common.{◌≡◌, ℕ, ◌+◌, ◌<◌, ◌≤◌, zero, suc, Bool, cond, List, [], ◌∷◌, length, get_or, slice_get, Option, Some, None, IfSome, sym, ap, subst, ◌∙◌, inl, inr, refl, arith}
use Rattle.std.specs.Prelude.{is_some}
use Rattle.std.specs.Option.{option_map, option_map_or}
use Rattle.tap_frame.specs.declared.shape.Shape.{Shape}
use Rattle.tap_steer.specs.Select.{parts_of, shape_in, shape_of}
use Rattle.std.proofs.lemmas.Bool.{eq-eqb, cases_lt}
use Rattle.std.proofs.lemmas.List.{get_or_past}
use Rattle.std.proofs.lemmas.Option.{none-some, same_Some}
use Rattle.tap_queues.specs.declared.queues.Row.{Row}
use Rattle.tap_steer.specs.declared.files.Attachment.{Attachment}
use Rattle.tap_steer.specs.declared.files.Attachment.TheVariants.{Unattached, Enabled, Disabled}
use Rattle.tap_steer.specs.declared.files.File.{File}
use Rattle.tap_steer.specs.Table.{Table, Device, Named, new_file, new_name, file_at, device_at, device_of, home}
use Rattle.tap_steer.specs.Sound.{times, rows_of, disabled_of, enabled_in, disabled_in, disabled_files, IsGood, IsSound, AreSettings}
use Rattle.tap_steer.specs.Slot.{HasSize}

-- what holds of the value that is there
pub IfSome-at : {A : Type 0} (o : Option A) (P : A → Type 0) (a : A) → o ≡ Some a → IfSome o P → P a
IfSome-at o P a e h = let Q : Option _ → Type 0 = λ x. IfSome x P in subst Q e h

-- a device is there
abbrev pub Is : Option Device → Type 0
Is o = (d : Device) × (o ≡ Some d)

pub has_rows : (o : Option Device) (f : ℕ) → 0 < times f (rows_of o) → Is o
has_rows None f h = absurd (omega arith)
has_rows (Some d) f h = (d, refl)

pub has_disabled : (o : Option Device) → 0 < disabled_of o → Is o
has_disabled None h = absurd (omega arith)
has_disabled (Some d) h = (d, refl)

-- a number whose name has a device is below the number of names
pub is_below : (names : List Named) (k : ℕ) → Is (get_or names k (new_name (0, 0))).device → k < length names
is_below names k here = elim (cases_lt k (length names)) [
  | inl h ↦ h
  | inr past ↦ absurd (none-some here.0 (sym (ap (λ (n : Named). n.device) (get_or_past names k (new_name (0, 0)) past)) ∙ here.1))
]

pub enabled_here : (d : ℕ) → enabled_in d (Enabled d) ≡ 1
enabled_here d = ap (λ b. cond b 1 0) (eq-eqb d d refl)

pub disabled_here : (d : ℕ) → disabled_in d (Disabled d) ≡ 1
disabled_here d = ap (λ b. cond b 1 0) (eq-eqb d d refl)

-- each file's share is among those of all
pub disabled_share : (d : ℕ) (files : List File) (f : ℕ) → disabled_in d (get_or files f (new_file 0)).attachment ≤ disabled_files d files
disabled_share d [] f = omega arith
disabled_share d (x ∷ xs) zero = omega arith
disabled_share d (x ∷ xs) (suc f) = omega (arith, disabled_share d xs f)

home_at : (t : Table) → IsSound t → (f d : ℕ) (a : Attachment) → (file_at t f).attachment ≡ a → home a ≡ Some d → Is (device_at t d)
home_at t s f d Unattached e h = absurd (none-some d h)
home_at t s f d (Enabled x) e h =
    let here : enabled_in d (Enabled x) ≡ 1 = ap (λ y. enabled_in d (Enabled y)) (same_Some x d h) ∙ enabled_here d in
    let there : enabled_in d (file_at t f).attachment ≡ enabled_in d (Enabled x) = ap (enabled_in d) e in
    has_rows (device_at t d) f (omega (arith, s.rows d f))
home_at t s f d (Disabled x) e h =
    let here : disabled_in d (Disabled x) ≡ 1 = ap (λ y. disabled_in d (Disabled y)) (same_Some x d h) ∙ disabled_here d in
    let there : disabled_in d (file_at t f).attachment ≡ disabled_in d (Disabled x) = ap (disabled_in d) e in
    has_disabled (device_at t d) (omega (arith, s.disabled d, disabled_share d t.files f))

pub home_is : (t : Table) → IsSound t → (f d : ℕ) → device_of t f ≡ Some d → Is (device_at t d)
home_is t s f d h = home_at t s f d (file_at t f).attachment refl h

pub home_is_name : (t : Table) → IsSound t → (f d : ℕ) → device_of t f ≡ Some d → d < length t.names
home_is_name t s f d h = is_below t.names d (home_is t s f d h)

pub enabled_is_name : (t : Table) → IsSound t → (f d : ℕ) → (file_at t f).attachment ≡ Enabled d → d < length t.names
enabled_is_name t s f d e = home_is_name t s f d (ap home e)

pub disabled_is_name : (t : Table) → IsSound t → (f d : ℕ) → (file_at t f).attachment ≡ Disabled d → d < length t.names
disabled_is_name t s f d e = home_is_name t s f d (ap home e)

pub size_in : (o : Option Device) (programs clock : ℕ) → IfSome o (IsGood programs clock) → IfSome o HasSize
size_in None programs clock g = tt
size_in (Some d) programs clock g = (g.settings.least, g.settings.most)

pub size_is_good : (t : Table) → IsSound t → (d : ℕ) → IfSome (device_at t d) HasSize
size_is_good t s d = size_in (device_at t d) (length t.programs) t.clock (s.good d)

-- the places of a device's programs
pub places_are_good : (t : Table) → IsSound t → (k : ℕ) (d : Device) → device_at t k ≡ Some d → AreSettings (length t.programs) d.settings
places_are_good t s k d e = (IfSome-at (device_at t k) (IsGood (length t.programs) t.clock) d e (s.good k)).settings

pub times_at : (rows : List Row) (i : ℕ) (row : Row) → slice_get rows i ≡ Some row → 0 < times row.file rows
times_at [] i row e = absurd (none-some row e)
times_at (x ∷ xs) zero row e =
    let here : times row.file (x ∷ xs) ≡ 1 + times row.file xs =
    ap (λ b. cond b 1 0 + times row.file xs) (eq-eqb x.file row.file (ap (λ (r : Row). r.file) (same_Some x row e))) in
    omega arith
times_at (x ∷ xs) (suc i) row e = omega (arith, times_at xs i row e)

-- a file past the end is enabled nowhere
enabled_below : (files : List File) (f d : ℕ) → 0 < enabled_in d (get_or files f (new_file 0)).attachment → f < length files
enabled_below files f d h = elim (cases_lt f (length files)) [
  | inl below ↦ below
  | inr past ↦
      let none : enabled_in d (get_or files f (new_file 0)).attachment ≡ 0 = ap (λ (x : File). enabled_in d x.attachment) (get_or_past files f (new_file 0) past) in
      absurd (omega arith)
]

-- a row's file is there
pub row_is_file : (t : Table) → IsSound t → (d i : ℕ) (row : Row) → slice_get (rows_of (device_at t d)) i ≡ Some row → row.file < length t.files
row_is_file t s d i row e = enabled_below t.files row.file d (omega (arith, s.rows d row.file, times_at (rows_of (device_at t d)) i row e))

-- what holds of each value that an option may have
pub IfSome-each : {A : Type 0} (P : A → Type 0) (o : Option A) → ((a : A) → o ≡ Some a → P a) → IfSome o P
IfSome-each P None h = tt
IfSome-each P (Some a) h = h a refl

-- a file's device is one of 64
pub home_is_named : (t : Table) → IsSound t → (f : ℕ) → IfSome (device_of t f) (λ d. d < 64)
home_is_named t s f = IfSome-each (λ d. d < 64) (device_of t f) (λ d e. subst (λ n. d < n) s.named (home_is_name t s f d e))

is_some-map : {A B : Type 0} (f : A → B) (o : Option A) → is_some (option_map f o) ≡ is_some o
is_some-map f None = refl
is_some-map f (Some a) = refl

shape_case : (t : Table) → IsSound t → (f : ℕ) (o : Option ℕ) → device_of t f ≡ o → is_some (option_map_or (λ k. option_map shape_in (device_at t k)) o None) ≡ is_some o
shape_case t s f None e = refl
shape_case t s f (Some k) e = is_some-map shape_in (device_at t k) ∙ ap (λ (o : Option Device). is_some o) (home_is t s f k e).1

-- a file has a shape exactly where it has a device
pub has_shape : (t : Table) → IsSound t → (f : ℕ) (result : Option Shape) → option_map parts_of result ≡ shape_of t f → is_some result ≡ is_some (device_of t f)
has_shape t s f result e =
    sym (is_some-map parts_of result) ∙ ap (λ (o : Option (Bool × Option ℕ)). is_some o) e ∙ shape_case t s f (device_of t f) refl

-- a file's device is a name, wherever its queue stands
pub ruleset homes = (enabled_is_name, disabled_is_name)

-- what a selection needs
pub ruleset selecting = (places_are_good, row_is_file)
