-- VIRTIO 1.2, 2.8: a packed virtqueue, where its three parts lie, how the places of its ring follow one another, and
-- what the bytes of a descriptor mean.
use Rattle.std.specs.Prelude.{ℕ, true, ◌+◌, ◌-◌, ◌*◌, ◌≤◌, IsTrue, Bool, not, ◌&&◌, ◌||◌, ◌==◌, nat_lt, nat_le, bit_and, List, ◌++◌, drop, if◌then◌else◌}
use Rattle.std.specs.Int.{w16, w32, w64, from_le_bytes, to_le_bytes}
use Rattle.vring_packed.specs.declared.desc.PackedDesc.{PackedDesc}
use Rattle.vring_packed.specs.declared.layout.PackedLayout.{PackedLayout}
use Rattle.vring_packed.specs.declared.place.Place.{Place}

-- 2.8: how many bytes the descriptor ring of a queue of size q takes, and each of the two event suppression areas
abbrev pub ring_len : ℕ → ℕ
ring_len q = 16 * q

abbrev pub area_len : ℕ
area_len = 4

-- two areas share no byte
abbrev pub are_apart : ℕ → ℕ → ℕ → ℕ → Bool
are_apart a n b k = nat_le (a + n) b || nat_le (b + k) a

-- a layout is good for a memory, of which a test tells whether the bytes from an address on are there: the queue size
-- is 1 to 32,768, and the descriptor ring, the driver area and the device area lie in the memory and share no byte
pub record IsGoodFor (l : PackedLayout) (covers : ℕ → ℕ → Bool) : Type 0 where
  pub some : 1 ≤ l.num
  pub most : l.num ≤ 32768
  pub ring : IsTrue (covers l.ring (ring_len l.num))
  pub driver : IsTrue (covers l.driver area_len)
  pub device : IsTrue (covers l.device area_len)
  pub ring_driver : IsTrue (are_apart l.ring (ring_len l.num) l.driver area_len)
  pub ring_device : IsTrue (are_apart l.ring (ring_len l.num) l.device area_len)
  pub driver_device : IsTrue (are_apart l.driver area_len l.device area_len)

-- the same as a test
abbrev pub is_good_for : PackedLayout → (ℕ → ℕ → Bool) → Bool
is_good_for l covers =
    nat_le 1 l.num && nat_le l.num 32768
    && covers l.ring (ring_len l.num) && covers l.driver area_len && covers l.device area_len
    && are_apart l.ring (ring_len l.num) l.driver area_len && are_apart l.ring (ring_len l.num) l.device area_len
    && are_apart l.driver area_len l.device area_len

-- 2.8.1: the first place, and the place so many places on: passing the end of the ring goes to its start and turns
-- the wrap counter
abbrev pub first_place : Place
first_place = record { at = 0; wrap = true }

abbrev pub place_after : ℕ → Place → ℕ → Place
place_after num p count =
    if nat_lt (p.at + count) num then record { at = p.at + count; wrap = p.wrap }
    else record { at = p.at + count - num; wrap = not p.wrap }

-- 2.8.13: the descriptor that 16 bytes are, le64 addr, le32 len, le16 id and le16 flags, and its bytes
unfoldable pub desc_of : List ℕ → PackedDesc
desc_of bytes = record {
  addr = from_le_bytes w64 bytes;
  len = from_le_bytes w32 (drop 8 bytes);
  id = from_le_bytes w16 (drop 12 bytes);
  flags = from_le_bytes w16 (drop 14 bytes);
}

unfoldable pub desc_bytes : PackedDesc → List ℕ
desc_bytes d = to_le_bytes w64 d.addr ++ to_le_bytes w32 d.len ++ to_le_bytes w16 d.id ++ to_le_bytes w16 d.flags

-- 2.8.13: the flags of a descriptor, NEXT 1, WRITE 2, INDIRECT 4, and the bits 7, AVAIL, and 15, USED
abbrev pub has_flag : ℕ → PackedDesc → Bool
has_flag flag d = not (bit_and d.flags flag == 0)

abbrev pub has_next : PackedDesc → Bool
has_next d = has_flag 1 d

abbrev pub is_writable : PackedDesc → Bool
is_writable d = has_flag 2 d

abbrev pub is_indirect : PackedDesc → Bool
is_indirect d = has_flag 4 d

-- 2.8.1: a descriptor is available where AVAIL is the wrap counter and USED isn't
abbrev pub is_available : Bool → PackedDesc → Bool
is_available wrap d =
    if wrap then has_flag 128 d && not (has_flag 32768 d) else not (has_flag 128 d) && has_flag 32768 d
