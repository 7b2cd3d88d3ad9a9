-- VIRTIO 1.2, 2.7.8 and 2.7.14, and this project's own: how a driver takes back what the device used.
use Rattle.std.specs.Prelude.{◌≡◌, Result, Ok, Err, ℕ, zero, suc, min, List, [], ◌∷◌, ◌++◌, Option, None, Some, is_none, ◌&&◌, if◌then◌else◌}
use Rattle.std.specs.Global.{Vec}
use Rattle.guest_mem.specs.Memory.{Contents, bytes_from}
use Rattle.vring_split.specs.Split.{used_idx_addr, used_entry_addr, used_event_addr, used_elem_of, distance}
use Rattle.vring_split.specs.declared.used_elem.UsedElem.{UsedElem}
use Rattle.tap_ground.specs.declared.error.OrMemory.{OrMemory}
use Rattle.tap_ground.specs.declared.error.OrMemory.TheVariants.{Fault, NoMemory}
use Rattle.vring_drive.specs.declared.error.StrayUsed.{StrayUsed}
use Rattle.vring_drive.specs.Area.{field_at, with_field}
use Rattle.vring_drive.specs.Books.{Books, ring_of, found_out, taken_back}

-- what a harvest finds: the books after it, the used entries, each with its head and length, and the head of an entry
-- that isn't out, if it met one
pub record Harvest : Type 0 where
  pub books : Books
  pub found : List (ℕ × ℕ)
  pub stray : Option ℕ

-- how many used entries are there: up to the used index, and no more than the ring has
abbrev pub ready_count : Contents → Books → ℕ
ready_count m b = min (distance b.used (field_at m (used_idx_addr (ring_of b)))) b.num

-- the used entry at the driver's place
unfoldable pub used_entry : Contents → Books → UsedElem
used_entry m b = used_elem_of (bytes_from m.bytes (used_entry_addr (ring_of b) b.used) 8)

-- a harvest with entries found before it
abbrev pub behind_found : List (ℕ × ℕ) → Harvest → Harvest
behind_found before h = record h { found = before ++ h.found }

-- the entries in their order; one whose head isn't out ends the harvest, and what came before it stays
unfoldable pub harvest_of : ℕ → Contents → Books → Harvest
harvest_of zero m b = record { books = b; found = []; stray = None }
harvest_of (suc n) m b =
    let e = used_entry m b in
    elim (found_out e.id b) [
      | None ↦ record { books = b; found = []; stray = Some e.id }
      | Some chain ↦ behind_found ((e.id, e.len) ∷ []) (harvest_of n m (taken_back e.id chain b))
    ]

-- all that is there
abbrev pub harvested : Contents → Books → Harvest
harvested m b = harvest_of (ready_count m b) m b

-- the memory after it: with event indexes used_event is the driver's place, but not after a stray entry
abbrev pub harvested_in : Contents → Books → Contents
harvested_in m b =
    let h = harvested m b in
    if is_none h.stray && b.event then with_field (used_event_addr (ring_of b)) h.books.used m else m

-- What the calls answer.

-- a harvest's answer and the books that it leaves: what was found, or the stray entry; want of memory is free
abbrev pub Answers : Harvest → Books → Result (Vec (ℕ × ℕ)) (OrMemory StrayUsed) → Type 0
Answers h new (Ok found) = (h.stray ≡ None) × (found.items ≡ h.found) × (new ≡ h.books)
Answers h new (Err (Fault e)) = (h.stray ≡ Some e.id) × (new ≡ h.books)
Answers h new (Err NoMemory) = Unit {0}

-- a fact, but where memory ran out
abbrev pub Unless : Result (Vec (ℕ × ℕ)) (OrMemory StrayUsed) → Type 0 → Type 0
Unless (Ok found) p = p
Unless (Err (Fault e)) p = p
Unless (Err NoMemory) p = Unit {0}
