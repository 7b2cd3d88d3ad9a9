-- Each operation that isn't refused leaves a sound table sound.
use Rattle.std.proofs.Common.{◌≡◌, ◌≢◌, ℕ, ◌+◌, ◌<◌, zero, suc, Bool, cond, eqb, List, [], ◌∷◌, length, get_or, set, Option, sym, ap, subst, ◌∙◌, inl, inr, arith, length-set}
use Rattle.std.specs.Prelude.{IfSome}
use Rattle.std.specs.List.{AllByRecursion}
use Rattle.std.proofs.lemmas.Bool.{eq-eqb, ne_eqb, cases_eq}
use Rattle.std.proofs.lemmas.List.{get_or-set_same, get_or-set_other}
use Rattle.tap_queues.specs.declared.queues.Row.{Row}
use Rattle.tap_steer.specs.declared.files.File.{File}
use Rattle.tap_steer.specs.Table.{Table, Device, Named, new_file, new_name, file_at, name_at, device_at, with_file, with_device}
use Rattle.tap_steer.specs.Sound.{times, rows_of, disabled_of, enabled_in, disabled_in, disabled_files, AtOwnEpochs, IsGood, IsSound}
use Rattle.tap_steer.proofs.RowLemmas.{share}

-- ---- one file and one name changed

pub file_same : (t : Table) (file : ℕ) (x : File) → file < length t.files → file_at (with_file t file x) file ≡ x
file_same t file x h = get_or-set_same t.files file x (new_file 0) h

pub file_other : (t : Table) (file : ℕ) (x : File) (other : ℕ) → other ≢ file → file_at (with_file t file x) other ≡ file_at t other
file_other t file x other apart = get_or-set_other t.files file other x (new_file 0) apart

pub device_same : (t : Table) (k : ℕ) (o : Option Device) → k < length t.names → device_at (with_device t k o) k ≡ o
device_same t k o h = ap (λ (n : Named). n.device) (get_or-set_same t.names k (record (name_at t k) { device = o }) (new_name (0, 0)) h)

pub device_other : (t : Table) (k : ℕ) (o : Option Device) (other : ℕ) → other ≢ k → device_at (with_device t k o) other ≡ device_at t other
device_other t k o other apart = ap (λ (n : Named). n.device) (get_or-set_other t.names k other (record (name_at t k) { device = o }) (new_name (0, 0)) apart)

-- one file's share of the disabled queues changes
pub disabled_files-set : (d : ℕ) (files : List File) (file : ℕ) (x : File) → file < length files → disabled_files d (set files file x) + disabled_in d (get_or files file (new_file 0)).attachment ≡ disabled_files d files + disabled_in d x.attachment
disabled_files-set d [] file x h = absurd (omega arith)
disabled_files-set d (y ∷ ys) zero x h = omega arith
disabled_files-set d (y ∷ ys) (suc file) x h = let lower : file < length ys = omega arith in omega (arith, disabled_files-set d ys file x lower)

-- what has to be so of the file and the device that change
pub record IsStep (t : Table) (file k : ℕ) (x : File) (o : Option Device) : Type 0 where
  pub file_in : file < length t.files
  pub name_in : k < length t.names
  pub its_rows : times file (rows_of o) ≡ enabled_in k x.attachment
  pub other_rows : (g : ℕ) → g ≢ file → times g (rows_of o) ≡ times g (rows_of (device_at t k))
  pub its_epochs : AllByRecursion (λ row. row.epoch ≡ cond (eqb row.file file) x.epoch (file_at t row.file).epoch) (rows_of o)
  pub was_here : (d : ℕ) → d ≢ k → (enabled_in d (file_at t file).attachment ≡ 0) × (disabled_in d (file_at t file).attachment ≡ 0)
  pub is_here : (d : ℕ) → d ≢ k → (enabled_in d x.attachment ≡ 0) × (disabled_in d x.attachment ≡ 0)
  pub disabled : disabled_of o + disabled_in k (file_at t file).attachment ≡ disabled_of (device_at t k) + disabled_in k x.attachment
  pub good : IfSome o (IsGood (length t.programs) t.clock)

-- the table after such a step
abbrev pub stepped : Table → ℕ → ℕ → File → Option Device → Table
stepped t file k x o = with_device (with_file t file x) k o

-- the epoch of a file after it
epoch_of : (t : Table) (file : ℕ) (x : File) → file < length t.files → (g : ℕ) → (file_at (with_file t file x) g).epoch ≡ cond (eqb g file) x.epoch (file_at t g).epoch
epoch_of t file x h g = elim (cases_eq g file) [
  | inl same ↦
      let pick : Bool → ℕ = λ b. cond b x.epoch (file_at t g).epoch in
      let here : (file_at (with_file t file x) g).epoch ≡ x.epoch = ap (λ k. (file_at (with_file t file x) k).epoch) same ∙ ap (λ (y : File). y.epoch) (file_same t file x h) in
      here ∙ sym (ap pick (eq-eqb g file same))
  | inr apart ↦
      let pick : Bool → ℕ = λ b. cond b x.epoch (file_at t g).epoch in
      ap (λ (y : File). y.epoch) (file_other t file x g apart) ∙ sym (ap pick (ne_eqb g file apart))
]

epochs_moved : (t : Table) (file : ℕ) (x : File) → file < length t.files → (rows : List Row) → AllByRecursion (λ row. row.epoch ≡ cond (eqb row.file file) x.epoch (file_at t row.file).epoch) rows → AllByRecursion (λ row. row.epoch ≡ (file_at (with_file t file x) row.file).epoch) rows
epochs_moved t file x h [] all = tt
epochs_moved t file x h (row ∷ rows) all = (all.0 ∙ sym (epoch_of t file x h row.file), epochs_moved t file x h rows all.1)

-- rows in which the file doesn't stand keep their epochs
epochs_kept : (t : Table) (file : ℕ) (x : File) → (rows : List Row) → times file rows ≡ 0 → AtOwnEpochs t rows → AtOwnEpochs (with_file t file x) rows
epochs_kept t file x [] none all = tt
epochs_kept t file x (row ∷ rows) none all = elim (cases_eq row.file file) [
  | inl same ↦ let one : share file row ≡ 1 = ap (λ b. cond b 1 0) (eq-eqb row.file file same) in absurd (omega arith)
  | inr apart ↦
      let fewer : times file rows ≡ 0 = omega arith in
      (all.0 ∙ sym (ap (λ (y : File). y.epoch) (file_other t file x row.file apart)), epochs_kept t file x rows fewer all.1)
]

module _ (t : Table) (sound : IsSound t) (file k : ℕ) (x : File) (o : Option Device) (step : IsStep t file k x o) where
  rows_here : (g : ℕ) → times g (rows_of o) ≡ enabled_in k (file_at (with_file t file x) g).attachment
  rows_here g = elim (cases_eq g file) [
    | inl same ↦
        ap (λ n. times n (rows_of o)) same ∙ step.its_rows ∙ sym (ap (λ (y : File). enabled_in k y.attachment) (file_same t file x step.file_in))
        ∙ ap (λ n. enabled_in k (file_at (with_file t file x) n).attachment) (sym same)
    | inr apart ↦
        step.other_rows g apart ∙ sound.rows k g ∙ sym (ap (λ (y : File). enabled_in k y.attachment) (file_other t file x g apart))
  ]

  rows_there : (d : ℕ) → d ≢ k → (g : ℕ) → times g (rows_of (device_at t d)) ≡ enabled_in d (file_at (with_file t file x) g).attachment
  rows_there d away g = elim (cases_eq g file) [
    | inl same ↦
        ap (λ n. times n (rows_of (device_at t d))) same ∙ sound.rows d file ∙ (step.was_here d away).0 ∙ sym (step.is_here d away).0
        ∙ sym (ap (λ (y : File). enabled_in d y.attachment) (file_same t file x step.file_in))
        ∙ ap (λ n. enabled_in d (file_at (with_file t file x) n).attachment) (sym same)
    | inr apart ↦ sound.rows d g ∙ sym (ap (λ (y : File). enabled_in d y.attachment) (file_other t file x g apart))
  ]

  -- what is so of the device in its place, and of each other one, is so of each afterwards
  of_each : (P : ℕ → Option Device → Type 0) → P k o → ((d : ℕ) → d ≢ k → P d (device_at t d)) → (d : ℕ) → P d (device_at (stepped t file k x o) d)
  of_each P here there d = elim (cases_eq d k) [
    | inl same ↦
        let at : device_at (stepped t file k x o) k ≡ o = device_same (with_file t file x) k o step.name_in in
        subst (λ n. P n (device_at (stepped t file k x o) n)) (sym same) (subst (λ q. P k q) (sym at) here)
    | inr away ↦ subst (λ q. P d q) (sym (device_other (with_file t file x) k o d away)) (there d away)
  ]

  disabled_here' : disabled_of o ≡ disabled_files k (set t.files file x)
  disabled_here' = omega (arith, step.disabled, disabled_files-set k t.files file x step.file_in, sound.disabled k)

  disabled_there : (d : ℕ) → d ≢ k → disabled_of (device_at t d) ≡ disabled_files d (set t.files file x)
  disabled_there d away = omega (arith, disabled_files-set d t.files file x step.file_in, sound.disabled d, (step.was_here d away).1, (step.is_here d away).1)

  pub sound_step : IsSound (stepped t file k x o)
  sound_step = record {
    named = length-set t.names k (record (name_at t k) { device = o }) ∙ sound.named;
    rows = of_each (λ d q. (g : ℕ) → times g (rows_of q) ≡ enabled_in d (file_at (with_file t file x) g).attachment) rows_here rows_there;
    epochs = of_each (λ d q. AtOwnEpochs (with_file t file x) (rows_of q))
        (epochs_moved t file x step.file_in (rows_of o) step.its_epochs)
        (λ d away. epochs_kept t file x (rows_of (device_at t d)) (sound.rows d file ∙ (step.was_here d away).0) (sound.epochs d));
    disabled = of_each (λ d q. disabled_of q ≡ disabled_files d (set t.files file x)) disabled_here' disabled_there;
    good = of_each (λ d q. IfSome q (IsGood (length t.programs) t.clock)) step.good (λ d away. sound.good d);
  }
