-- VIRTIO 1.2, 2.7: the three parts of a split virtqueue, where each field stands in them, and what its bytes mean.
use Rattle.std.specs.Prelude.{ℕ, ◌+◌, ◌-◌, ◌*◌, ◌^◌, ◌%◌, Bool, not, ◌==◌, nat_lt, bit_and, List, ◌++◌, drop}
use Rattle.std.specs.Int.{w16, w32, w64, from_le_bytes, to_le_bytes}
use Rattle.vring_split.specs.declared.desc.Desc.{Desc}
use Rattle.vring_split.specs.declared.layout.Layout.{Layout}
use Rattle.vring_split.specs.declared.fault.RingFault.{RingFault}
use Rattle.vring_split.specs.declared.fault.RingFault.TheVariants.{AvailJump, HeadRange, NextRange, TooLong, Nested, IndirectNext, IndirectLength, Unmapped, Order, Direction, TooManySegments, IndirectOff}
use Rattle.vring_split.specs.declared.used_elem.UsedElem.{UsedElem}

-- 2.7: how many bytes the descriptor table, the available ring and the used ring of a queue of size q take
abbrev pub desc_len : ℕ → ℕ
desc_len q = 16 * q

abbrev pub avail_len : ℕ → ℕ
avail_len q = 6 + 2 * q

abbrev pub used_len : ℕ → ℕ
used_len q = 6 + 8 * q

-- 2.7.5: where descriptor i of the ring's own table starts
abbrev pub desc_addr : Layout → ℕ → ℕ
desc_addr l i = l.desc + 16 * i

-- 2.7.6: where the fields of the available ring start; the entry of a position is the one at its remainder by the
-- queue size
abbrev pub avail_flags_addr : Layout → ℕ
avail_flags_addr l = l.avail

abbrev pub avail_idx_addr : Layout → ℕ
avail_idx_addr l = l.avail + 2

abbrev pub avail_entry_addr : Layout → ℕ → ℕ
avail_entry_addr l position = l.avail + 4 + 2 * (position % l.num)

abbrev pub used_event_addr : Layout → ℕ
used_event_addr l = l.avail + 4 + 2 * l.num

-- 2.7.8: where the fields of the used ring start
abbrev pub used_flags_addr : Layout → ℕ
used_flags_addr l = l.used

abbrev pub used_idx_addr : Layout → ℕ
used_idx_addr l = l.used + 2

abbrev pub used_entry_addr : Layout → ℕ → ℕ
used_entry_addr l position = l.used + 4 + 8 * (position % l.num)

abbrev pub avail_event_addr : Layout → ℕ
avail_event_addr l = l.used + 4 + 8 * l.num

-- 2.7.5: the descriptor that 16 bytes are, le64 addr, le32 len, le16 flags and le16 next, and its bytes
unfoldable pub desc_of : List ℕ → Desc
desc_of bytes = record {
  addr = from_le_bytes w64 bytes;
  len = from_le_bytes w32 (drop 8 bytes);
  flags = from_le_bytes w16 (drop 12 bytes);
  next = from_le_bytes w16 (drop 14 bytes);
}

unfoldable pub desc_bytes : Desc → List ℕ
desc_bytes d = to_le_bytes w64 d.addr ++ to_le_bytes w32 d.len ++ to_le_bytes w16 d.flags ++ to_le_bytes w16 d.next

-- 2.7.5: the flags of a descriptor, NEXT 1, WRITE 2 and INDIRECT 4
abbrev pub has_next : Desc → Bool
has_next d = not (bit_and d.flags 1 == 0)

abbrev pub is_writable : Desc → Bool
is_writable d = not (bit_and d.flags 2 == 0)

abbrev pub is_indirect : Desc → Bool
is_indirect d = not (bit_and d.flags 4 == 0)

-- 2.7.8: the used element that 8 bytes are, le32 id and le32 len, and its bytes
unfoldable pub used_elem_of : List ℕ → UsedElem
used_elem_of bytes = record { id = from_le_bytes w32 bytes; len = from_le_bytes w32 (drop 4 bytes) }

unfoldable pub used_elem_bytes : UsedElem → List ℕ
used_elem_bytes e = to_le_bytes w32 e.id ++ to_le_bytes w32 e.len

-- how many positions lie from one to another, going up and from 65,535 on to 0
abbrev pub distance : ℕ → ℕ → ℕ
distance from to = (to + (2 ^ 16 - from)) % 2 ^ 16

-- 2.7.7.1: an index that goes from old to new reaches the position after event
abbrev pub needs_event : ℕ → ℕ → ℕ → Bool
needs_event event new old = nat_lt (distance (event + 1) new) (distance old new)

-- this project's own: the number of a fault
abbrev pub number_of_fault : RingFault → ℕ
number_of_fault AvailJump = 1
number_of_fault HeadRange = 2
number_of_fault NextRange = 3
number_of_fault TooLong = 4
number_of_fault Nested = 5
number_of_fault IndirectNext = 6
number_of_fault IndirectLength = 7
number_of_fault (Unmapped addr len) = 8
number_of_fault Order = 9
number_of_fault Direction = 10
number_of_fault TooManySegments = 11
number_of_fault IndirectOff = 12
