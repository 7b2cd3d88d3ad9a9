-- VIRTIO 1.2, 2.8: what a fetch answers on packed rings, lawful and hostile, as worked examples.
use Rattle.std.specs.Prelude.{◌≡◌, ℕ, ◌%◌, nat_lt, Bool, true, false, List, [], ◌∷◌, map, slice_get, if◌then◌else◌}
use Rattle.guest_mem.specs.declared.region.Region.{Region}
use Rattle.guest_mem.specs.Memory.{ByteList, look, covers, with_bytes}
use Rattle.vring_split.specs.declared.fault.RingFault.TheVariants.{TooLong, IndirectNext, IndirectLength, Unmapped, Order, Direction, TooManySegments, IndirectOff}
use Rattle.vring_walk.specs.Chain.{Look}
use Rattle.vring_packed.specs.declared.desc.PackedDesc.{PackedDesc}
use Rattle.vring_packed.specs.declared.fetched.PackedFetched.{PackedFetched}
use Rattle.vring_packed.specs.declared.fetched.PackedFetched.TheVariants.{Chain, Nothing, Bad, Crowded}
use Rattle.vring_packed.specs.declared.layout.PackedLayout.{PackedLayout}
use Rattle.vring_packed.specs.declared.place.Place.{Place}
use Rattle.vring_packed.specs.Packed.{desc_bytes, first_place}
use Rattle.vring_packed.specs.Fetched.{fetched}

-- one region of 65,536 bytes
abbrev pub one_region : List Region
one_region = record { addr = 0; len = 65536 } ∷ []

-- a ring of two entries, for reading or for writing, with or without indirect tables
abbrev pub ring_of_two : Bool → Bool → PackedLayout
ring_of_two rx indirect =
    record { num = 2; ring = 0; driver = 32; device = 36; indirect = indirect; event = false; rx = rx }

-- a memory with a descriptor more, at an address: its address, length, id and flags
abbrev pub with_desc : ByteList → ℕ → ℕ → ℕ → ℕ → ℕ → ByteList
with_desc bs at addr len id flags =
    with_bytes bs at (desc_bytes (record { addr = addr; len = len; id = id; flags = flags }))

-- two descriptors with these lengths and flags
abbrev pub two_descs : ℕ → ℕ → ℕ → ℕ → ByteList
two_descs len flags second_len second_flags =
    with_desc (with_desc [] 0 4096 len 0 flags) 16 4096 second_len 1 second_flags

-- what a fetch at a place answers, where so many places are left
abbrev pub answer_at : Place → ℕ → (PackedLayout × ByteList) → PackedFetched
answer_at p places ring = (fetched (look one_region ring.1) (covers one_region) ring.0 p places).0

abbrev pub answer_of : ℕ → (PackedLayout × ByteList) → PackedFetched
answer_of places ring = answer_at first_place places ring

-- used already; available, of length 0; two that both have NEXT; two of one chain, whose id is the second's; not a
-- chain's end, but the end of the ring
abbrev pub RingsAreFetched : Type 0
RingsAreFetched =
    (map (answer_of 1024)
    ((ring_of_two false true, two_descs 0 32896 0 0) ∷ (ring_of_two false true, two_descs 0 128 0 0)
    ∷ (ring_of_two false true, two_descs 16 129 16 129) ∷ (ring_of_two false true, two_descs 16 129 16 0)
    ∷ (ring_of_two false true, two_descs 16 0 16 128) ∷ [])
    ≡ Nothing ∷ Chain 0 1 ∷ Bad TooLong ∷ Chain 1 2 ∷ Nothing ∷ [])
    × (map (λ places. answer_of places (ring_of_two false true, two_descs 16 129 16 128)) (1 ∷ 2 ∷ [])
    ≡ Crowded ∷ Chain 1 2 ∷ [])

-- with the wrap counter off: available, used already, available for the other counter, and nothing
abbrev pub WrapIsOff : Type 0
WrapIsOff =
    map (λ flags. answer_at (record { at = 0; wrap = false }) 1024 (ring_of_two false true, two_descs 16 flags 0 0))
    (32768 ∷ 0 ∷ 128 ∷ 32896 ∷ [])
    ≡ Chain 0 1 ∷ Nothing ∷ Nothing ∷ Nothing ∷ []

-- a chain from the last entry of the ring goes on at the first one, whose AVAIL and USED aren't looked at
abbrev pub ChainPastTheEnd : Type 0
ChainPastTheEnd =
    fetched (look one_region (two_descs 8 32896 16 129)) (covers one_region) (ring_of_two false true)
    (record { at = 1; wrap = true }) 1024
    ≡ (
      Chain 0 2,
      record { addr = 4096; len = 16; write = false } ∷ record { addr = 4096; len = 8; write = false } ∷ [],
    )

-- a ring whose first descriptor refers to a table at 8,192 of these two entries
abbrev pub with_table : ℕ → ℕ → ℕ → ℕ → ByteList
with_table len flags first_flags second_flags =
    with_desc (with_desc (with_desc [] 0 8192 len 5 flags) 8192 4096 16 0 first_flags) 8208 4096 16 0 second_flags

-- a table's entries are all taken, with or without NEXT, and INDIRECT in one means nothing
abbrev pub HostileRings : Type 0
HostileRings =
    map (answer_of 1024)
    ((ring_of_two false true, with_table 32 132 0 5) ∷ (ring_of_two false false, with_table 32 132 0 0)
    ∷ (ring_of_two false true, with_table 32 133 0 0) ∷ (ring_of_two false true, with_table 24 132 0 0)
    ∷ (ring_of_two false true, with_table 32 132 1 2) ∷ (ring_of_two true true, with_table 32 132 2 0)
    ∷ (ring_of_two true true, two_descs 16 128 0 0) ∷ (ring_of_two false true, with_desc [] 0 65530 10 0 128) ∷ [])
    ≡ Chain 5 1 ∷ Bad IndirectOff ∷ Bad IndirectNext ∷ Bad IndirectLength ∷ Bad Direction ∷ Bad Order
    ∷ Bad Direction ∷ Bad (Unmapped 65530 10) ∷ []

-- one descriptor breaks two rules, and the earlier of them is told: INDIRECT wasn't offered, before NEXT; NEXT, before
-- the table's length; that length, before bytes outside; these, before the direction and before the order; and a table
-- outside whose length is good
abbrev pub EarlierRuleIsTold : Type 0
EarlierRuleIsTold =
    map (answer_of 1024)
    ((ring_of_two false false, with_table 32 133 0 0) ∷ (ring_of_two false true, with_table 24 133 0 0)
    ∷ (ring_of_two false true, with_desc [] 0 65530 24 5 132)
    ∷ (ring_of_two true true, with_desc [] 0 65530 10 0 128)
    ∷ (ring_of_two true true, with_desc (with_table 32 132 2 0) 8208 65530 10 0 0)
    ∷ (ring_of_two false true, with_desc [] 0 65530 32 5 132) ∷ [])
    ≡ Bad IndirectOff ∷ Bad IndirectNext ∷ Bad IndirectLength ∷ Bad (Unmapped 65530 10) ∷ Bad (Unmapped 65530 10)
    ∷ Bad (Unmapped 65530 32) ∷ []

-- a descriptor of 16 bytes at 4,096, and one that refers to a table of so many bytes at 8,192
abbrev pub plain_desc : ℕ → PackedDesc
plain_desc flags = record { addr = 4096; len = 16; id = 3; flags = flags }

abbrev pub table_desc : ℕ → ℕ → PackedDesc
table_desc len flags = record { addr = 8192; len = len; id = 5; flags = flags }

-- a memory of these two descriptors at 0, another one at each further multiple of 16, and a last one from 24,560 on,
-- where the 1,024th entry of a table at 8,192 stands
abbrev pub all_of : PackedDesc → PackedDesc → PackedDesc → PackedDesc → Look
all_of first second other last a =
    slice_get (desc_bytes
    (if nat_lt a 16 then first else (if nat_lt a 32 then second else (if nat_lt a 24560 then other else last))))
    (a % 16)

-- a ring of so many entries, for reading
abbrev pub large_ring : ℕ → PackedLayout
large_ring num =
    record { num = num; ring = 0; driver = 32768; device = 32772; indirect = true; event = false; rx = false }

abbrev pub answer_in : PackedLayout → Look → PackedFetched
answer_in l m = (fetched m (covers one_region) l first_place 1024).0

-- a table of 1,024 entries is a good one and has as many segments as a chain may have, and one of 1,025 is too long
abbrev pub LongestTables : Type 0
LongestTables =
    map (λ len. answer_in (large_ring 2) (all_of (table_desc len 132) (plain_desc 0) (plain_desc 0) (plain_desc 0)))
    (16384 ∷ 16400 ∷ [])
    ≡ Chain 5 1 ∷ Bad IndirectLength ∷ []

-- a ring of two whose first descriptor is a segment and whose second one refers to a table of 1,024 entries, the last
-- with these flags: the 1,025th segment is one too many, and its direction is told first
abbrev pub table_behind : ℕ → PackedFetched
table_behind flags =
    answer_in (large_ring 2) (all_of (plain_desc 129) (table_desc 16384 4) (plain_desc 0) (plain_desc flags))

abbrev pub OneTooMany : Type 0
OneTooMany = table_behind 0 ≡ Bad TooManySegments

abbrev pub DirectionIsTold : Type 0
DirectionIsTold = table_behind 2 ≡ Bad Direction

-- a ring of 1,024 entries that all have NEXT ends before the 1,025th segment
abbrev pub RingEndsFirst : Type 0
RingEndsFirst =
    answer_in (large_ring 1024) (all_of (plain_desc 129) (plain_desc 129) (plain_desc 129) (plain_desc 129))
    ≡ Bad TooLong
