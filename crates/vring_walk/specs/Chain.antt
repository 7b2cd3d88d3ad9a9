-- VIRTIO 1.2, 2.7.5: a ring's descriptor chains, as paths over the bytes of a memory. A memory is the byte at each
-- address, and a test of whether the bytes from an address on are there. The 1,024 segments, the 16,384 bytes of a
-- table, the direction by the kind of ring and the order of the rules are this project's own.
use Rattle.std.specs.Prelude.{◌≡◌, ℕ, ◌+◌, ◌*◌, ◌/◌, ◌%◌, ◌≤◌, Bool, true, false, not, ◌&&◌, ◌||◌, ◌==◌, nat_lt, nat_le, IsTrue, List, [], ◌∷◌, ◌++◌, length, filter, All, Option, None, Some, if◌then◌else◌}
use Rattle.std.specs.List.{list_any}
use Rattle.guest_mem.specs.Memory.{bytes_at}
use Rattle.vring_split.specs.declared.desc.Desc.{Desc}
use Rattle.vring_split.specs.declared.fault.RingFault.{RingFault}
use Rattle.vring_split.specs.declared.fault.RingFault.TheVariants.{NextRange, TooLong, Nested, IndirectNext, IndirectLength, Unmapped, Order, Direction, TooManySegments, IndirectOff}
use Rattle.vring_split.specs.declared.layout.Layout.{Layout}
use Rattle.vring_split.specs.declared.segment.Segment.{Segment}
use Rattle.vring_split.specs.Split.{desc_of, has_next, is_writable, is_indirect}
use Rattle.vring_walk.specs.declared.table.Table.{Table}
use Rattle.tap_ground.specs.Options.{first_that_holds as first_broken}

-- the byte at an address, if there is one
abbrev pub Look : Type 0
Look = ℕ → Option ℕ

-- whether there is a byte at each of so many addresses from one on
abbrev pub Cover : Type 0
Cover = ℕ → ℕ → Bool

-- where a descriptor of a chain stands: the table, and the entry in it
pub record Place : Type 0 where
  pub table : Table
  pub index : ℕ

-- the descriptor at a place
unfoldable pub desc_at : Look → Place → Desc
desc_at look p = desc_of (bytes_at look (p.table.addr + 16 * p.index) 16)

-- 2.7.5: the ring's own table, whose entry a head is
abbrev pub own_table : Layout → Table
own_table l = record { addr = l.desc; entries = l.num; indirect = false }

abbrev pub head_place : Layout → ℕ → Place
head_place l head = record { table = own_table l; index = head }

-- 2.7.5.3: the table that an indirect descriptor refers to
abbrev pub table_of : Desc → Table
table_of d = record { addr = d.addr; entries = d.len / 16; indirect = true }

-- what comes after a descriptor in a table: the first entry of the table that it refers to, or the entry of the same
-- table that NEXT leads to
abbrev pub place_after : Table → Desc → Option Place
place_after t d =
    if is_indirect d then Some (record { table = table_of d; index = 0 })
    else (if has_next d then Some (record { table = t; index = d.next }) else None)

abbrev pub next_place : Look → Place → Option Place
next_place look p = place_after p.table (desc_at look p)

-- the segment that a descriptor is; one that refers to a table is none
abbrev pub segment_of : Desc → Segment
segment_of d = record { addr = d.addr; len = d.len; write = is_writable d }

abbrev pub segment_in : Desc → List Segment
segment_in d = if is_indirect d then [] else segment_of d ∷ []

-- the segments of the descriptors at some places, the last place first
abbrev pub segments_of : Look → List Place → List Segment
segments_of look [] = []
segments_of look (p ∷ behind) = segments_of look behind ++ segment_in (desc_at look p)

-- how many of the places stand in a table; a path has one indirect table at most
abbrev pub seen_in : Table → List Place → ℕ
seen_in t behind = length (filter (λ q. if t.indirect then q.table.indirect else not q.table.indirect) behind)

-- a segment is writable
abbrev pub any_writable : List Segment → Bool
any_writable segments = list_any (λ s. s.write) segments

-- a table's length is 0, no multiple of 16, or above 16,384
abbrev pub is_bad_length : ℕ → Bool
is_bad_length len = len == 0 || not (len % 16 == 0) || nat_lt 16384 len

-- the rules for a descriptor in a table, in their order: after so many of the same table, and so many segments, of
-- which one or none is writable
abbrev pub rules_for : Cover → Layout → Table → Desc → ℕ → ℕ → Bool → List (Bool × RingFault)
rules_for covers l t d seen count writable =
    (nat_le t.entries seen, TooLong)
    ∷ (is_indirect d && not l.indirect, IndirectOff)
    ∷ (is_indirect d && t.indirect, Nested)
    ∷ (is_indirect d && has_next d, IndirectNext)
    ∷ (is_indirect d && is_bad_length d.len, IndirectLength)
    ∷ (not (covers d.addr d.len), Unmapped d.addr d.len)
    ∷ (not (is_indirect d) && not (is_writable d) && writable, Order)
    ∷ (not (is_indirect d) && (if l.rx then not (is_writable d) else is_writable d), Direction)
    ∷ (not (is_indirect d) && nat_le 1024 count, TooManySegments)
    ∷ (has_next d && nat_le t.entries d.next, NextRange)
    ∷ []

-- the first rule that a descriptor in a table breaks, after so many of the same table and after these segments
abbrev pub fault_after : Cover → Layout → Table → Desc → ℕ → List Segment → Option RingFault
fault_after covers l t d seen met = first_broken (rules_for covers l t d seen (length met) (any_writable met))

-- the first rule that the descriptor at a place breaks, after the places behind it
abbrev pub fault_at : Look → Cover → Layout → List Place → Place → Option RingFault
fault_at look covers l behind p =
    fault_after covers l p.table (desc_at look p) (seen_in p.table behind) (segments_of look behind)

-- the path from a head reaches a place over the places behind it, the last of them first, and none of these breaks
-- a rule
abbrev pub Reaches : Look → Cover → Layout → ℕ → List Place → Place → Type 0
Reaches look covers l head [] p = p ≡ head_place l head
Reaches look covers l head (q ∷ behind) p =
    Reaches look covers l head behind q × (fault_at look covers l behind q ≡ None) × (next_place look q ≡ Some p)

-- the chain from a head: a path that breaks no rule, to a descriptor after which none comes, with these segments in
-- its order
pub record IsChain (look : Look) (covers : Cover) (l : Layout) (head : ℕ) (segments : List Segment) : Type 0 where
  pub behind : List Place
  pub last : Place
  pub reached : Reaches look covers l head behind last
  pub good : fault_at look covers l behind last ≡ None
  pub ends : next_place look last ≡ None
  pub has : segments ≡ segments_of look (last ∷ behind)

-- the first rule that the path from a head breaks
pub record IsFirstFault (look : Look) (covers : Cover) (l : Layout) (head : ℕ) (fault : RingFault) : Type 0 where
  pub behind : List Place
  pub bad : Place
  pub reached : Reaches look covers l head behind bad
  pub broken : fault_at look covers l behind bad ≡ Some fault

-- what a device may do with the segments of a chain: there are few, each lies in the memory, and each is written on a
-- receive ring and read on a transmit ring
pub record IsUsable (covers : Cover) (l : Layout) (segments : List Segment) : Type 0 where
  pub few : length segments ≤ 1024
  pub lies : All (λ s. IsTrue (covers s.addr s.len)) segments
  pub directed : All (λ s. s.write ≡ l.rx) segments
