-- This project's own, after the rows of a Linux tun device: attaching a file appends a row, and
-- detaching one writes the last row over it.
use Rattle.std.specs.Prelude.{◌≡◌, ◌≢◌, ◌==◌, ℕ, ◌+◌, ◌-◌, ◌≤◌, if◌then◌else◌, List, [], ◌∷◌, ◌++◌, length, take, slice_get, slice_set, slice_index_or, position, Option, None, AllPairs, IsSomeAnd}
use Rattle.std.specs.Option.{option_map}
use Rattle.tap_queues.specs.declared.queues.Row.{Row}
use Rattle.tap_queues.specs.declared.queues.TheConstants.{MAX_QUEUES}

-- a row of no file, read only where there are no rows
abbrev pub no_row : Row
no_row = record { file = 0; epoch = 0 }

-- there are at most so many rows as there may be, and no two are of one file
pub record AreRows (rows : List Row) : Type 0 where
  pub few : length rows ≤ MAX_QUEUES
  pub distinct : AllPairs (λ a b. a.file ≢ b.file) rows

-- the row at this index is the file's
abbrev pub IsRowOf : List Row → ℕ → ℕ → Type 0
IsRowOf rows file index = IsSomeAnd (slice_get rows index) (λ row. row.file ≡ file)

-- the index of the file's row, if it has one
abbrev pub index_of : List Row → ℕ → Option ℕ
index_of rows file = position (λ row. row.file == file) rows

-- the rows with one more at the end
abbrev pub attached : List Row → ℕ → ℕ → List Row
attached rows file epoch = rows ++ record { file = file; epoch = epoch } ∷ []

-- the rows after the last is written over the one at `hole`, and the last is dropped
abbrev pub detached : List Row → ℕ → List Row
detached rows hole =
    take (length rows - 1) (slice_set rows hole (slice_index_or rows (length rows - 1) no_row))

-- the file whose row moves to `hole` then: the one that stood last, and none where the hole is last
abbrev pub moved_to : List Row → ℕ → Option ℕ
moved_to rows hole =
    if hole + 1 == length rows then None else option_map (λ row. row.file) (slice_get rows (length rows - 1))
