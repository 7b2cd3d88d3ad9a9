-- This project's own: where the entries of a line stand that wait.
use Rattle.std.specs.Prelude.{◌≡◌, ℕ, ◌+◌, List, [], ◌∷◌, ◌++◌, Bool, true, if◌then◌else◌, None, is_some}
use Rattle.tap_world.specs.declared.line.Entry.{Entry}
use Rattle.tap_world.specs.declared.line.Standing.{Standing}
use Rattle.tap_world.specs.Line.{count, first_that, in_batch, in_ring, is_claimed}
use Rattle.tap_world.specs.LineSteps.{filled}

-- the places in the list of the entries that stand so, where the list begins at this place
abbrev pub places_that : (Standing → Bool) → ℕ → List Entry → List ℕ
places_that test k [] = []
places_that test k (e ∷ es) =
    if test e.stands then k ∷ places_that test (k + 1) es else places_that test (k + 1) es

-- behind an entry of the ring none is of the batch
abbrev pub AreParted : List Entry → Type 0
AreParted [] = Unit {0}
AreParted (e ∷ es) = (in_ring e.stands ≡ true → first_that in_batch es ≡ None) × AreParted es

-- What is kept beside a line to find its entries with no search: the places of those that wait, the batch before the
-- ring; how many of them are in the batch; and how many places are claimed and not put.
pub record IsIndexed (line : List Entry) (waiting : List ℕ) (batched : ℕ) (claims : ℕ) : Type 0 where
  pub parted : AreParted line
  pub waits : waiting ≡ places_that in_batch 0 line ++ places_that in_ring 0 line
  pub batch : batched ≡ count in_batch line
  pub open_claims : claims ≡ count is_claimed line

-- the line with up to 64 ready fronts of the ring in the batch
unfoldable pub filled_up : List Entry → List Entry
filled_up line = filled 64 line

-- where its batch is empty; the batch's front is what a worker takes then
abbrev pub to_be_taken : List Entry → List Entry
to_be_taken line = if is_some (first_that in_batch line) then line else filled_up line
