-- VIRTIO 1.2, 2.7: what a fetch answers on rings that a hostile driver wrote, as worked examples.
use Rattle.std.specs.Prelude.{◌≡◌, ℕ, Bool, true, false, List, [], ◌∷◌, map}
use Rattle.std.specs.Int.{w16, to_le_bytes}
use Rattle.guest_mem.specs.declared.region.Region.{Region}
use Rattle.guest_mem.specs.Memory.{ByteList, look, covers, with_bytes}
use Rattle.vring_split.specs.declared.fault.RingFault.TheVariants.{AvailJump, HeadRange, NextRange, TooLong, Nested, IndirectNext, IndirectLength, Unmapped, Order, Direction, IndirectOff}
use Rattle.vring_split.specs.declared.layout.Layout.{Layout}
use Rattle.vring_split.specs.Split.{desc_bytes}
use Rattle.vring_walk.specs.declared.walk.Fetched.{Fetched}
use Rattle.vring_walk.specs.declared.walk.Fetched.TheVariants.{Chain, Nothing, Bad}
use Rattle.vring_walk.specs.Fetched.{fetched}

-- one region of 65,536 bytes
abbrev pub one_region : List Region
one_region = record { addr = 0; len = 65536 } ∷ []

-- a ring of four entries, with or without indirect tables, for reading or for writing
abbrev pub ring_of_four : Bool → Bool → Layout
ring_of_four rx indirect =
    record { num = 4; desc = 0; avail = 64; used = 80; indirect = indirect; event = false; rx = rx }

-- a memory with a descriptor more, at an address: its address, length, flags and next
abbrev pub with_desc : ByteList → ℕ → ℕ → ℕ → ℕ → ℕ → ByteList
with_desc bs at addr len flags next =
    with_bytes bs at (desc_bytes (record { addr = addr; len = len; flags = flags; next = next }))

-- a memory with an available index and a first entry
abbrev pub offered : ℕ → ℕ → ByteList
offered index entry = with_bytes (with_bytes [] 66 (to_le_bytes w16 index)) 68 (to_le_bytes w16 entry)

-- one chain is offered, whose first descriptor is this one
abbrev pub first_desc : ℕ → ℕ → ℕ → ℕ → ByteList
first_desc addr len flags next = with_desc (offered 1 0) 0 addr len flags next

-- what a fetch at a position answers
abbrev pub answer_at : ℕ → (Layout × ByteList) → Fetched
answer_at position ring = (fetched (look one_region ring.1) (covers one_region) ring.0 position 1024).0

-- a transmit ring, a receive ring, and a transmit ring without indirect tables
abbrev pub hostile : List (Layout × ByteList)
hostile =
    (ring_of_four false true, with_desc (offered 5 0) 0 4096 16 0 0)
    ∷ (ring_of_four false true, with_desc (offered 1 4) 0 4096 16 0 0)
    ∷ (ring_of_four false true, first_desc 4096 16 1 4)
    ∷ (ring_of_four false true, first_desc 4096 16 1 0)
    ∷ (ring_of_four false true, with_desc (first_desc 4096 16 4 0) 4096 0 16 4 0)
    ∷ (ring_of_four false true, first_desc 4096 16 5 0)
    ∷ (ring_of_four false true, first_desc 4096 24 4 0)
    ∷ (ring_of_four false true, first_desc 65530 10 0 0)
    ∷ (ring_of_four true true, with_desc (first_desc 4096 16 3 1) 16 4096 16 0 0)
    ∷ (ring_of_four false true, first_desc 4096 16 2 0)
    ∷ (ring_of_four false false, first_desc 4096 24 4 0)
    ∷ (ring_of_four false true, with_desc (offered 0 0) 0 4096 16 0 0)
    ∷ (ring_of_four false true, first_desc 18446744073709551615 0 0 0)
    ∷ []

abbrev pub HostileRings : Type 0
HostileRings =
    map (answer_at 0) hostile
    ≡ Bad AvailJump ∷ Bad HeadRange ∷ Bad NextRange ∷ Bad TooLong ∷ Bad Nested ∷ Bad IndirectNext
    ∷ Bad IndirectLength ∷ Bad (Unmapped 65530 10) ∷ Bad Order ∷ Bad Direction ∷ Bad IndirectOff
    ∷ Nothing ∷ Chain 0 ∷ []

-- a ring of four entries, each of which is its own head, with an available index
abbrev pub wrapping : ℕ → Layout × ByteList
wrapping index = (
  ring_of_four false true,
  with_desc (with_desc (with_desc (with_desc
      (with_bytes (with_bytes [] 66 (to_le_bytes w16 index)) 70 (1 ∷ 0 ∷ 2 ∷ 0 ∷ 3 ∷ []))
      0 4096 16 0 0) 16 4096 16 0 0) 32 4096 16 0 0) 48 4096 16 0 0,
)

-- the index wraps at 65,536: five positions ahead are too far, and four are taken one after the other
abbrev pub IndexWraps : Type 0
IndexWraps =
    (answer_at 65534 (wrapping 3) ≡ Bad AvailJump)
    × (map (λ position. answer_at position (wrapping 2)) (65534 ∷ 65535 ∷ 0 ∷ 1 ∷ 2 ∷ [])
    ≡ Chain 2 ∷ Chain 3 ∷ Chain 0 ∷ Chain 1 ∷ Nothing ∷ [])
