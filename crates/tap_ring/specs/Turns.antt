-- This project's own: reopenings and resizes. A reopening is kept as the claim count that it met, and a resize as the
-- capacity that it was given.
use Rattle.std.specs.Prelude.{◌≡◌, ℕ, ◌+◌, nat_lt, if◌then◌else◌, List, [], ◌∷◌, slice_get, Some}
use Rattle.tap_ring.specs.declared.rule.Loaded.{Loaded}

-- how many of the reopenings were at or before the place
abbrev pub turns_to : ℕ → List ℕ → ℕ
turns_to place [] = 0
turns_to place (claimed ∷ more) = (if nat_lt place claimed then 0 else 1) + turns_to place more

-- under this number of resizes the ring had this capacity: under none the first one, under n that of the n-th resize
abbrev pub IsGiven : ℕ → List ℕ → ℕ → ℕ → Type 0
IsGiven first resized number capacity = slice_get (first ∷ resized) number ≡ Some capacity

-- a capacity that was loaded, under this number of resizes
abbrev pub loaded : ℕ → ℕ → Loaded
loaded resizes capacity = record { resizes = resizes; capacity = capacity }

-- each capacity that was loaded was the ring's under its number of resizes
abbrev pub EachGiven : ℕ → List ℕ → List Loaded → Type 0
EachGiven first resized [] = Unit {0}
EachGiven first resized (x ∷ xs) = IsGiven first resized x.resizes x.capacity × EachGiven first resized xs
