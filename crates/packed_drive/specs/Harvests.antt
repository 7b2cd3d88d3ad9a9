-- VIRTIO 1.2, 2.8.9 and 2.8.14, and this project's own: how a driver takes back what the device used.
use Rattle.std.specs.Prelude.{◌≡◌, Result, Ok, Err, ℕ, zero, suc, Bool, true, false, not, ◌&&◌, List, [], ◌∷◌, ◌++◌, slice_get, Option, None, Some, if◌then◌else◌}
use Rattle.std.specs.Option.{option_flatten}
use Rattle.std.specs.Global.{Vec}
use Rattle.guest_mem.specs.Memory.{Contents, byte_at}
use Rattle.tap_ground.specs.declared.error.OrMemory.{OrMemory}
use Rattle.tap_ground.specs.declared.error.OrMemory.TheVariants.{Fault, NoMemory}
use Rattle.vring_drive.specs.declared.error.StrayUsed.{StrayUsed}
use Rattle.vring_packed.specs.declared.desc.PackedDesc.{PackedDesc}
use Rattle.vring_packed.specs.Packed.{has_flag}
use Rattle.vring_packed.specs.Chain.{desc_at}
use Rattle.packed_drive.specs.Books.{Books, taken_back}

-- what a harvest finds: the books after it, the used chains, each with its id and length, and the id of one that isn't
-- out, if it met one
pub record Harvest : Type 0 where
  pub books : Books
  pub found : List (ℕ × ℕ)
  pub stray : Option ℕ

-- a descriptor is used where AVAIL and USED both are the wrap counter
abbrev pub is_used : Bool → PackedDesc → Bool
is_used wrap d =
    if wrap then has_flag 128 d && has_flag 32768 d else not (has_flag 128 d) && not (has_flag 32768 d)

-- the descriptor at the place where the next used one is looked for
abbrev pub used_desc : Contents → Books → PackedDesc
used_desc m b = desc_at (byte_at m) b.start b.used.at

-- how many descriptors the chain has that is out with an id, if there is one
abbrev pub found_out : ℕ → Books → Option ℕ
found_out id b = option_flatten (slice_get b.out id)

-- a harvest with chains found before it
abbrev pub behind_found : List (ℕ × ℕ) → Harvest → Harvest
behind_found before h = record h { found = before ++ h.found }

-- the used chains in their order, as many as there are and no more than so many; one whose id isn't out ends the
-- harvest, and what came before it stays
unfoldable pub harvest_of : ℕ → Contents → Books → Harvest
harvest_of zero m b = record { books = b; found = []; stray = None }
harvest_of (suc n) m b =
    let d = used_desc m b in
    if is_used b.used.wrap d then elim (found_out d.id b) [
      | None ↦ record { books = b; found = []; stray = Some d.id }
      | Some count ↦ behind_found ((d.id, d.len) ∷ []) (harvest_of n m (taken_back d.id count b))
    ]
    else record { books = b; found = []; stray = None }

-- all that is there, no more than the ring has
abbrev pub harvested : Contents → Books → Harvest
harvested m b = harvest_of b.num m b

-- a harvest's answer and the books that it leaves: what was found, or the stray id; want of memory is free
abbrev pub Answers : Harvest → Books → Books → Result (Vec (ℕ × ℕ)) (OrMemory StrayUsed) → Type 0
Answers h old new (Ok found) = (h.stray ≡ None) × (found.items ≡ h.found) × (new ≡ h.books)
Answers h old new (Err (Fault e)) = (h.stray ≡ Some e.id) × (new ≡ h.books)
Answers h old new (Err NoMemory) = new ≡ old

-- what becomes of the used descriptor at the driver's place: there is none; its chain is back; or its id isn't out
abbrev pub TakesBack : Contents → Books → Result (Option (ℕ × ℕ)) StrayUsed → Books → Type 0
TakesBack m old (Ok None) new = (is_used old.used.wrap (used_desc m old) ≡ false) × (new ≡ old)
TakesBack m old (Ok (Some entry)) new =
    let d = used_desc m old in
    (count : ℕ) × (is_used old.used.wrap d ≡ true) × (found_out d.id old ≡ Some count) × (entry ≡ (d.id, d.len))
    × (new ≡ taken_back d.id count old)
TakesBack m old (Err stray) new =
    let d = used_desc m old in
    (is_used old.used.wrap d ≡ true) × (found_out d.id old ≡ None) × (stray.id ≡ d.id) × (new ≡ old)
