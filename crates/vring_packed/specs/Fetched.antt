-- VIRTIO 1.2, 2.8.14: what a device finds at a place of a packed ring, as a function of the memory.
use Rattle.std.specs.Prelude.{◌≡◌, ℕ, ◌+◌, ◌-◌, ◌≤◌, nat_le, List, [], ◌∷◌, ◌++◌, length, Ok, Err, if◌then◌else◌}
use Rattle.vring_split.specs.declared.fault.RingFault.{RingFault}
use Rattle.vring_split.specs.declared.fault.RingFault.TheVariants.{TooLong}
use Rattle.vring_split.specs.declared.segment.Segment.{Segment}
use Rattle.vring_walk.specs.Chain.{Look, Cover}
use Rattle.vring_packed.specs.declared.desc.PackedDesc.{PackedDesc}
use Rattle.vring_packed.specs.declared.layout.PackedLayout.{PackedLayout}
use Rattle.vring_packed.specs.declared.place.Place.{Place}
use Rattle.vring_packed.specs.declared.fetched.PackedFetched.{PackedFetched}
use Rattle.vring_packed.specs.declared.fetched.PackedFetched.TheVariants.{Chain, Nothing, Bad, Crowded}
use Rattle.vring_packed.specs.Packed.{is_available, has_next}
use Rattle.vring_packed.specs.Chain.{desc_at, descs_along, with_desc}

-- how a chain ends: with a rule that it breaks, or whole, with the id of its last descriptor in the ring, the number of
-- its descriptors in the ring, and its segments
pub data ChainEnd : Type 0 where
  Breaks : RingFault → ChainEnd
  Gives : ℕ → ℕ → List Segment → ChainEnd

-- how a chain ends that goes on with these descriptors, all that are left of the ring, after so many of its descriptors
-- and these segments: at the first without NEXT
unfoldable pub chain_end : Look → Cover → PackedLayout → ℕ → List PackedDesc → List Segment → ChainEnd
chain_end look covers l seen [] met = Breaks TooLong
chain_end look covers l seen (d ∷ ds) met =
    elim (with_desc look covers l d met) [
      | Err fault ↦ Breaks fault
      | Ok now ↦
          if has_next d then chain_end look covers l (seen + 1) ds now else Gives d.id (seen + 1) now
    ]

-- how the chain from an entry of the ring ends
unfoldable pub chain_from : Look → Cover → PackedLayout → ℕ → ChainEnd
chain_from look covers l at = chain_end look covers l 0 (descs_along look l at l.num) []

-- what a chain tells where so many places are left
abbrev pub told_by_chain : ℕ → ChainEnd → PackedFetched × List Segment
told_by_chain places (Breaks fault) = (Bad fault, [])
told_by_chain places (Gives id count segments) =
    if nat_le (length segments) places then (Chain id count, segments) else (Crowded, [])

-- what a fetch at a place answers, and the segments that it appends to a room with so many places left
unfoldable pub fetched : Look → Cover → PackedLayout → Place → ℕ → PackedFetched × List Segment
fetched look covers l p places =
    if is_available p.wrap (desc_at look l.ring p.at) then told_by_chain places (chain_from look covers l p.at)
    else (Nothing, [])

-- the chain from an entry answers so, and appends these segments to a room of 1,024 places
abbrev pub AppendsChain : Look → Cover → PackedLayout → ℕ → List Segment → PackedFetched → List Segment → Type 0
AppendsChain look covers l at old answer new =
    let told = told_by_chain (1024 - length old) (chain_from look covers l at) in
    (answer ≡ told.0) × (new ≡ old ++ told.1)

-- a fetch answers so, and appends these segments to a room of 1,024 places
abbrev pub AppendsFetched : Look → Cover → PackedLayout → Place → List Segment → PackedFetched → List Segment → Type 0
AppendsFetched look covers l p old answer new =
    (answer ≡ (fetched look covers l p (1024 - length old)).0)
    × (new ≡ old ++ (fetched look covers l p (1024 - length old)).1)

-- a chain that was found has no more descriptors in the ring than the ring
abbrev pub FitsRing : PackedLayout → PackedFetched → Type 0
FitsRing l (Chain id count) = count ≤ l.num
FitsRing l Nothing = Unit {0}
FitsRing l (Bad fault) = Unit {0}
FitsRing l Crowded = Unit {0}
