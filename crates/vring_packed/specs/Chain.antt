-- VIRTIO 1.2, 2.8.6 to 2.8.8: a packed ring's descriptor chains, as lists of descriptors over the bytes of a memory.
-- The 1,024 segments, the 16,384 bytes of a table, the direction by the kind of ring and the order of the rules are
-- this project's own.
use Rattle.std.specs.Prelude.{ℕ, zero, suc, ◌+◌, ◌*◌, ◌/◌, Bool, not, ◌&&◌, nat_le, List, [], ◌∷◌, ◌++◌, length, None, Some, Result, Ok, Err, if◌then◌else◌}
use Rattle.guest_mem.specs.Memory.{bytes_at}
use Rattle.vring_split.specs.declared.fault.RingFault.{RingFault}
use Rattle.vring_split.specs.declared.fault.RingFault.TheVariants.{IndirectNext, IndirectLength, Unmapped, Order, Direction, TooManySegments, IndirectOff}
use Rattle.vring_split.specs.declared.segment.Segment.{Segment}
use Rattle.tap_ground.specs.Options.{first_that_holds as first_broken}
use Rattle.vring_walk.specs.Chain.{Look, Cover, any_writable, is_bad_length}
use Rattle.vring_packed.specs.declared.desc.PackedDesc.{PackedDesc}
use Rattle.vring_packed.specs.declared.layout.PackedLayout.{PackedLayout}
use Rattle.vring_packed.specs.Packed.{desc_of, has_next, is_writable, is_indirect}

-- the descriptor in the entry of a table that starts at an address
unfoldable pub desc_at : Look → ℕ → ℕ → PackedDesc
desc_at look table index = desc_of (bytes_at look (table + 16 * index) 16)

-- 2.8.1: the entry of the ring that comes after another
abbrev pub entry_after : ℕ → ℕ → ℕ
entry_after num at = if nat_le num (at + 1) then 0 else at + 1

-- so many descriptors along the ring, from an entry on
abbrev pub descs_along : Look → PackedLayout → ℕ → ℕ → List PackedDesc
descs_along look l at zero = []
descs_along look l at (suc n) = desc_at look l.ring at ∷ descs_along look l (entry_after l.num at) n

-- 2.8.7: so many entries of an indirect table, from one on, and all of the table that a descriptor refers to
abbrev pub entries_from : Look → ℕ → ℕ → ℕ → List PackedDesc
entries_from look table index zero = []
entries_from look table index (suc n) = desc_at look table index ∷ entries_from look table (index + 1) n

abbrev pub table_of : Look → PackedDesc → List PackedDesc
table_of look d = entries_from look d.addr 0 (d.len / 16)

-- the segment that a descriptor is
abbrev pub segment_of : PackedDesc → Segment
segment_of d = record { addr = d.addr; len = d.len; write = is_writable d }

-- the rules for a descriptor that is a segment, in their order: so many segments came before it, of which one or none
-- is writable
abbrev pub segment_rules : Cover → PackedLayout → PackedDesc → ℕ → Bool → List (Bool × RingFault)
segment_rules covers l d count writable =
    (not (covers d.addr d.len), Unmapped d.addr d.len)
    ∷ (not (is_writable d) && writable, Order)
    ∷ ((if l.rx then not (is_writable d) else is_writable d), Direction)
    ∷ (nat_le 1024 count, TooManySegments)
    ∷ []

-- the rules for a descriptor that refers to a table
abbrev pub table_rules : Cover → PackedLayout → PackedDesc → List (Bool × RingFault)
table_rules covers l d =
    (not l.indirect, IndirectOff)
    ∷ (has_next d, IndirectNext)
    ∷ (is_bad_length d.len, IndirectLength)
    ∷ (not (covers d.addr d.len), Unmapped d.addr d.len)
    ∷ []

-- the segments after these and a descriptor that is one more of them, or the first rule that it breaks
abbrev pub with_segment : Cover → PackedLayout → PackedDesc → List Segment → Result (List Segment) RingFault
with_segment covers l d met =
    elim (first_broken (segment_rules covers l d (length met) (any_writable met))) [
      | Some fault ↦ Err fault
      | None ↦ Ok (met ++ segment_of d ∷ [])
    ]

-- the segments after these and all entries of a table, one after the other, or the first rule that one of them breaks
abbrev pub with_entries : Cover → PackedLayout → List PackedDesc → List Segment → Result (List Segment) RingFault
with_entries covers l [] met = Ok met
with_entries covers l (d ∷ ds) met =
    elim (with_segment covers l d met) [
      | Err fault ↦ Err fault
      | Ok now ↦ with_entries covers l ds now
    ]

-- the segments after these and a descriptor of the ring with the table that it may refer to, or the first rule that is
-- broken
unfoldable pub with_desc : Look → Cover → PackedLayout → PackedDesc → List Segment → Result (List Segment) RingFault
with_desc look covers l d met =
    if is_indirect d then elim (first_broken (table_rules covers l d)) [
      | Some fault ↦ Err fault
      | None ↦ with_entries covers l (table_of look d) met
    ]
    else with_segment covers l d met
