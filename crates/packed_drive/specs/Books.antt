-- This project's own: what a driver keeps of its packed ring.
use Rattle.std.specs.Prelude.{ℕ, suc, ◌+◌, ◌-◌, List, [], ◌∷◌, slice_set, replicate, Option, None, Some}
use Rattle.guest_mem.specs.Memory.{Contents}
use Rattle.vring_packed.specs.declared.place.Place.{Place}
use Rattle.vring_packed.specs.Packed.{first_place, place_after}
use Rattle.packed_drive.specs.Area.{IsIn}

-- where its area starts, the queue size; for each id the number of descriptors of the chain that is out with it, or
-- none; the place at which the next descriptor is made available, and that at which the next used one is looked for
pub record Books : Type 0 where
  pub start : ℕ
  pub num : ℕ
  pub out : List (Option ℕ)
  pub next : Place
  pub used : Place

-- the whole area lies in the memory
abbrev pub HasArea : Books → Contents → Type 0
HasArea b m = IsIn b.start b.num m

-- a driver as it begins: no chain is out
abbrev pub first_books : ℕ → ℕ → Books
first_books at size =
    record { start = at; num = size; out = replicate size None; next = first_place; used = first_place }

-- how many descriptors a chain has that may be out
abbrev pub count_of : Option ℕ → ℕ
count_of None = 0
count_of (Some count) = count

-- how many are out, and how many are free
abbrev pub total : List (Option ℕ) → ℕ
total [] = 0
total (o ∷ os) = count_of o + total os

abbrev pub free_of : Books → ℕ
free_of b = b.num - total b.out

-- the lowest id that no chain is out with; the number of ids where there is none
abbrev pub lowest : List (Option ℕ) → ℕ
lowest [] = 0
lowest (None ∷ os) = 0
lowest (Some count ∷ os) = suc (lowest os)

-- a chain of so many descriptors goes out, with the lowest id
abbrev pub sent_out : ℕ → Books → Books
sent_out count b =
    record b { out = slice_set b.out (lowest b.out) (Some count); next = place_after b.num b.next count }

-- the chain of an id is back, and the next used descriptor is looked for behind it
abbrev pub taken_back : ℕ → ℕ → Books → Books
taken_back id count b =
    record b { out = slice_set b.out id None; used = place_after b.num b.used count }
