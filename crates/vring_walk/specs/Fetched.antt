-- VIRTIO 1.2, 2.7.13: what a device finds at a position, as a function of the memory.
use Rattle.std.specs.Prelude.{◌≡◌, ℕ, zero, suc, ◌+◌, ◌-◌, ◌==◌, nat_lt, nat_le, List, [], ◌++◌, length, Option, None, Some, if◌then◌else◌}
use Rattle.vring_split.specs.declared.fault.RingFault.{RingFault}
use Rattle.vring_split.specs.declared.fault.RingFault.TheVariants.{AvailJump, HeadRange, TooLong}
use Rattle.vring_split.specs.declared.layout.Layout.{Layout}
use Rattle.vring_split.specs.declared.segment.Segment.{Segment}
use Rattle.vring_split.specs.Split.{distance, is_indirect}
use Rattle.vring_walk.specs.declared.walk.Fetched.{Fetched}
use Rattle.vring_walk.specs.declared.walk.Fetched.TheVariants.{Chain, Nothing, Bad, Crowded}
use Rattle.vring_walk.specs.Chain.{Look, Cover, Place, desc_at, head_place, place_after, segment_in, fault_after}
use Rattle.vring_walk.specs.Fetch.{avail_idx, avail_head}

-- how a path ends: with a rule that it breaks, or as a chain with these segments
pub data PathEnd : Type 0 where
  Breaks : RingFault → PathEnd
  Gives : List Segment → PathEnd

-- how the path ends from a place on, where at most so many more descriptors are looked at: so many of the same table
-- and these segments came before
unfoldable pub path_end : Look → Cover → Layout → ℕ → Place → ℕ → List Segment → PathEnd
path_end look covers l zero p seen met = Breaks TooLong
path_end look covers l (suc n) p seen met =
    let d = desc_at look p in
    let now = met ++ segment_in d in
    elim (fault_after covers l p.table d seen met) [
      | Some fault ↦ Breaks fault
      | None ↦ elim (place_after p.table d) [
        | None ↦ Gives now
        | Some q ↦ path_end look covers l n q (if is_indirect d then 0 else seen + 1) now
      ]
    ]

-- how the path from a head ends; none is longer than the queue size and 1,025 descriptors
unfoldable pub path_from : Look → Cover → Layout → ℕ → PathEnd
path_from look covers l head = path_end look covers l (l.num + 1025) (head_place l head) 0 []

-- what the available index and the head tell without a path
abbrev pub told_at_once : Layout → ℕ → ℕ → ℕ → Option Fetched
told_at_once l position index head =
    if index == position then Some Nothing
    else (if nat_lt l.num (distance position index) then Some (Bad AvailJump)
    else (if nat_le l.num head then Some (Bad HeadRange)
    else None))

-- what the path from a head tells where so many places are left
abbrev pub told_by_path : ℕ → ℕ → PathEnd → Fetched × List Segment
told_by_path places head (Breaks fault) = (Bad fault, [])
told_by_path places head (Gives segments) =
    if nat_le (length segments) places then (Chain head, segments) else (Crowded, [])

-- what a fetch at a position answers, and the segments that it appends to a room with so many places left
unfoldable pub fetched : Look → Cover → Layout → ℕ → ℕ → Fetched × List Segment
fetched look covers l position places =
    elim (told_at_once l position (avail_idx look l) (avail_head look l position)) [
      | Some answer ↦ (answer, [])
      | None ↦
          let head = avail_head look l position in
          told_by_path places head (path_from look covers l head)
    ]

-- a fetch answers so, and appends these segments to a room of 1,024 places
abbrev pub AppendsFetched : Look → Cover → Layout → ℕ → List Segment → Fetched → List Segment → Type 0
AppendsFetched look covers l position old answer new =
    (answer ≡ (fetched look covers l position (1024 - length old)).0)
    × (new ≡ old ++ (fetched look covers l position (1024 - length old)).1)
