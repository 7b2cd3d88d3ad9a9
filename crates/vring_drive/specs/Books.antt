-- This project's own: what a driver keeps of its ring.
use Rattle.std.specs.Prelude.{◌≡◌, ℕ, ◌+◌, zero, suc, Bool, true, false, List, [], ◌∷◌, take, drop, slice_index, Option, None, Some}
use Rattle.std.specs.Ordering.{nat_cmp}
use Rattle.std.specs.BTreeMap.{is_at, insert_entry}
use Rattle.std.specs.BTreeSet.{insert_key}
use Rattle.std.specs.Map.{lookup, remove_entry}
use Rattle.guest_mem.specs.Memory.{Contents}
use Rattle.vring_split.specs.declared.layout.Layout.{Layout}
use Rattle.vring_drive.specs.Area.{IsIn, layout_at, after}

-- where its area starts, the queue size, whether event indexes are used; the free descriptors, rising; the chains that
-- are out, each with its head, by rising head; and its places in the available and in the used ring
pub record Books : Type 0 where
  pub start : ℕ
  pub num : ℕ
  pub event : Bool
  pub free : List ℕ
  pub out : List (ℕ × List ℕ)
  pub avail : ℕ
  pub used : ℕ

-- the ring, as a side sees it that doesn't read the two last settings
abbrev pub ring_of : Books → Layout
ring_of b = layout_at b.start b.num b.event false false

-- the whole area lies in the memory
abbrev pub HasArea : Books → Contents → Type 0
HasArea b m = IsIn (ring_of b) m

-- so many numbers from one on
abbrev pub numbers_from : ℕ → ℕ → List ℕ
numbers_from first zero = []
numbers_from first (suc n) = first ∷ numbers_from (first + 1) n

-- a driver as it begins: all descriptors are free, and no chain is out
abbrev pub first_books : ℕ → ℕ → Bool → Books
first_books at size ev =
    record { start = at; num = size; event = ev; free = numbers_from 0 size; out = []; avail = 0; used = 0 }

-- the lowest free descriptors, as the chain of the first of them
abbrev pub chain_of : ℕ → Books → List ℕ
chain_of need b = take need b.free

abbrev pub head_of : List ℕ → ℕ
head_of chain = slice_index chain 0

-- a chain goes out
abbrev pub sent_out : ℕ → Books → Books
sent_out need b = record b {
  free = drop need b.free;
  out = insert_entry nat_cmp b.out (head_of (chain_of need b)) (chain_of need b);
  avail = after b.avail 1;
}

-- the descriptors of the chain that is out under a head
abbrev pub found_out : ℕ → Books → Option (List ℕ)
found_out head b = lookup (is_at (nat_cmp head)) b.out

-- descriptors among the free ones
abbrev pub freed_into : List ℕ → List ℕ → List ℕ
freed_into free [] = free
freed_into free (d ∷ ds) = freed_into (insert_key nat_cmp free d) ds

-- the chain of a head is back, and the place in the used ring is the next one
abbrev pub taken_back : ℕ → List ℕ → Books → Books
taken_back head chain b = record b {
  free = freed_into b.free chain;
  out = remove_entry (is_at (nat_cmp head)) b.out;
  used = after b.used 1;
}

-- the same area and settings
pub record IsSettledAs (old new : Books) : Type 0 where
  pub start : new.start ≡ old.start
  pub num : new.num ≡ old.num
  pub event : new.event ≡ old.event

-- whether a chain of a head was out, and then it is back
abbrev pub ComesBack : ℕ → Books → Bool → Books → Type 0
ComesBack head old true new = (chain : List ℕ) × (found_out head old ≡ Some chain) × (new ≡ taken_back head chain old)
ComesBack head old false new = (found_out head old ≡ None) × (new ≡ old)
