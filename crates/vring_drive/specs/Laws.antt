-- This project's own: each descriptor of a driver is free, or in one chain that is out.
use Rattle.std.specs.Prelude.{◌≡◌, ℕ, ◌+◌, ◌<◌, ◌≤◌, Bool, nat_lt, List, [], ◌∷◌, length, Some, if◌then◌else◌}
use Rattle.guest_mem.specs.Memory.{Contents}
use Rattle.vring_drive.specs.Harvests.{harvested}
use Rattle.vring_drive.specs.Books.{Books, first_books, sent_out, found_out, taken_back}
use Rattle.tap_ground.specs.Lists.{times as times_in}

-- how often a descriptor stands in chains
abbrev pub times_out : ℕ → List (ℕ × List ℕ) → ℕ
times_out d [] = 0
times_out d (e ∷ es) = times_in d e.1 + times_out d es

-- how often a descriptor is free or in a chain that is out
abbrev pub times_kept : ℕ → Books → ℕ
times_kept d b = times_in d b.free + times_out d b.out

-- each chain stands under one of its own descriptors
abbrev pub StandUnderOwn : List (ℕ × List ℕ) → Type 0
StandUnderOwn [] = Unit {0}
StandUnderOwn (e ∷ es) = (0 < times_in e.0 e.1) × StandUnderOwn es

-- each descriptor of the ring is kept once and no other number is, and each chain stands under one of its own
pub record IsWhole (b : Books) : Type 0 where
  pub once : (d : ℕ) → times_kept d b ≡ (if nat_lt d b.num then 1 else 0)
  pub heads : StandUnderOwn b.out

-- a driver begins whole
abbrev pub BeginsWhole : Type 0
BeginsWhole = (start num : ℕ) (ev : Bool) → IsWhole (first_books start num ev)

-- a chain that goes out leaves it whole
abbrev pub SendsWhole : Type 0
SendsWhole = (need : ℕ) (b : Books) → 0 < need → need ≤ length b.free → IsWhole b → IsWhole (sent_out need b)

-- so does one that comes back
abbrev pub TakesWhole : Type 0
TakesWhole =
    (head : ℕ) (chain : List ℕ) (b : Books)
    → found_out head b ≡ Some chain → IsWhole b → IsWhole (taken_back head chain b)

-- and a harvest
abbrev pub HarvestsWhole : Type 0
HarvestsWhole = (m : Contents) (b : Books) → IsWhole b → IsWhole (harvested m b).books

-- where no chain is out, each descriptor of the ring is free, once, and no other number is
abbrev pub AllFreeAgain : Type 0
AllFreeAgain = (b : Books) → IsWhole b → b.out ≡ [] → (d : ℕ) → times_in d b.free ≡ (if nat_lt d b.num then 1 else 0)
