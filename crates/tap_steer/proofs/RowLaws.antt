-- The row that a frame gets.
use Rattle.std.proofs.Common.{◌≡◌, ℕ, zero, suc, ◌<◌, ◌≤◌, Bool, true, false, cond, eqb, List, [], ◌∷◌, length, get_or, slice_get, Option, Some, None, sym, ap, subst, ◌∙◌, inl, inr, refl, arith, min}
use Rattle.std.proofs.lemmas.Bool.{cases_eq, ne_eqb}
use Rattle.std.proofs.lemmas.Option.{none-some, same_Some}
use Rattle.std.specs.Option.{option_map_or}
use Rattle.std.specs.List.{AllByRecursion}
use Rattle.tap_queues.specs.declared.queues.Row.{Row as QueueRow}
use Rattle.tap_steer.specs.declared.files.Attachment.{Attachment}
use Rattle.tap_steer.specs.declared.files.Attachment.TheVariants.{Unattached, Enabled, Disabled}
use Rattle.tap_steer.specs.declared.selection.Select.{Select}
use Rattle.tap_steer.specs.declared.selection.Select.TheVariants.{Row, NoQueue, Filtered}
use Rattle.tap_steer.specs.Table.{Table, Device, file_at, device_at}
use Rattle.tap_steer.specs.Select.{allowed, filtered, goes_to, row_in, index_in, select, select_in}
use Rattle.tap_steer.specs.Sound.{enabled_in, rows_of, times, AtOwnEpochs, IsSound}
use Rattle.tap_steer.specs.Laws.{IsEnabledRow}
use Rattle.tap_steer.proofs.Homes.{times_at}

-- what is told of a row
abbrev told : Select → Option (QueueRow × ℕ × ℕ × ℕ)
told (Row row keep resizes capacity) = Some (row, keep, resizes, capacity)
told NoQueue = None
told Filtered = None

enabled_is : (k : ℕ) (a : Attachment) → 0 < enabled_in k a → a ≡ Enabled k
enabled_is k Unattached h = absurd (omega arith)
enabled_is k (Disabled x) h = absurd (omega arith)
enabled_is k (Enabled x) h = elim (cases_eq x k) [
  | inl same ↦ ap Enabled same
  | inr apart ↦ let none : enabled_in k (Enabled x) ≡ 0 = ap (λ b. cond b 1 0) (ne_eqb x k apart) in absurd (omega arith)
]

epoch_at : (t : Table) (rows : List QueueRow) (i : ℕ) (row : QueueRow) → AtOwnEpochs t rows → slice_get rows i ≡ Some row → row.epoch ≡ (file_at t row.file).epoch
epoch_at t [] i row all e = absurd (none-some row e)
epoch_at t (x ∷ xs) zero row all e = subst (λ (r : QueueRow). r.epoch ≡ (file_at t r.file).epoch) (same_Some x row e) all.0
epoch_at t (x ∷ xs) (suc i) row all e = epoch_at t xs i row all.1 e

-- what a filter leaves of a frame that has a row
record Passes (t : Table) (frame : List ℕ) (o : Option QueueRow) (row : QueueRow) (keep resizes capacity : ℕ) : Type 0 where
  is : o ≡ Some row
  kept : keep ≤ length frame
  resizes_are : resizes ≡ (file_at t row.file).resizes
  capacity_is : capacity ≡ (file_at t row.file).capacity

passes_by : (t : Table) (most : ℕ) (frame : List ℕ) (x : QueueRow) (b : Bool) (row : QueueRow) (keep resizes capacity : ℕ)
    → told (cond b Filtered (goes_to t x (min most (length frame)))) ≡ Some (row, keep, resizes, capacity)
    → Passes t frame (Some x) row keep resizes capacity
passes_by t most frame x true row keep resizes capacity e = absurd (none-some _ e)
passes_by t most frame x false row keep resizes capacity e =
    let parts = same_Some _ _ e in
    let is : x ≡ row = ap (λ (p : QueueRow × ℕ × ℕ × ℕ). p.0) parts in
    let kept : min most (length frame) ≡ keep = ap (λ (p : QueueRow × ℕ × ℕ × ℕ). p.1) parts in
    record {
      is = ap Some is;
      kept = omega (arith, kept);
      resizes_are = sym (ap (λ (p : QueueRow × ℕ × ℕ × ℕ). p.2) parts) ∙ ap (λ (r : QueueRow). (file_at t r.file).resizes) is;
      capacity_is = sym (ap (λ (p : QueueRow × ℕ × ℕ × ℕ). p.3) parts) ∙ ap (λ (r : QueueRow). (file_at t r.file).capacity) is;
    }

passes : (t : Table) (most : ℕ) (frame : List ℕ) (o : Option QueueRow) (row : QueueRow) (keep resizes capacity : ℕ)
    → told (filtered t most frame o) ≡ Some (row, keep, resizes, capacity) → Passes t frame o row keep resizes capacity
passes t most frame None row keep resizes capacity e = absurd (none-some _ e)
passes t most frame (Some x) row keep resizes capacity e = passes_by t most frame x (eqb most 0) row keep resizes capacity e

chosen_by : (t : Table) (frame : List ℕ) (d : Device) (b : Bool) (row : QueueRow) (keep resizes capacity : ℕ)
    → told (cond b NoQueue (filtered t (allowed t d.settings.filter frame) frame (row_in t d frame))) ≡ Some (row, keep, resizes, capacity)
    → Passes t frame (row_in t d frame) row keep resizes capacity
chosen_by t frame d true row keep resizes capacity e = absurd (none-some _ e)
chosen_by t frame d false row keep resizes capacity e = passes t (allowed t d.settings.filter frame) frame (row_in t d frame) row keep resizes capacity e

row_is_enabled : (t : Table) → IsSound t → (device : ℕ) (frame : List ℕ) (row : QueueRow) (keep resizes capacity : ℕ) (o : Option Device)
    → device_at t device ≡ o → told (option_map_or (λ d. select_in t d frame) o NoQueue) ≡ Some (row, keep, resizes, capacity)
    → IsEnabledRow t device frame row keep resizes capacity
row_is_enabled t s device frame row keep resizes capacity None at e = absurd (none-some _ e)
row_is_enabled t s device frame row keep resizes capacity (Some d) at e =
    let p = chosen_by t frame d (eqb (length d.rows) 0) row keep resizes capacity e in
    let i : ℕ = index_in t d d.settings.steering frame in
    let rows_are : rows_of (device_at t device) ≡ d.rows = ap rows_of at in
    let some : 0 < times row.file d.rows = times_at d.rows i row p.is in
    let count : times row.file d.rows ≡ enabled_in device (file_at t row.file).attachment = ap (times row.file) (sym rows_are) ∙ s.rows device row.file in
    record {
      enabled = enabled_is device (file_at t row.file).attachment (omega (arith, some, count));
      epoch = sym (epoch_at t d.rows i row (subst (λ (rows : List QueueRow). AtOwnEpochs t rows) rows_are (s.epochs device)) p.is);
      kept = p.kept;
      resizes_are = p.resizes_are;
      capacity_is = p.capacity_is;
    }

pub rows_are_enabled : (t : Table) → IsSound t → (device : ℕ) (frame : List ℕ) (row : QueueRow) (keep resizes capacity : ℕ)
    → select t device frame ≡ Row row keep resizes capacity → IsEnabledRow t device frame row keep resizes capacity
unfolding select
rows_are_enabled t s device frame row keep resizes capacity e =
    row_is_enabled t s device frame row keep resizes capacity (device_at t device) refl (ap told e)
