-- VIRTIO 1.2, 2.7.6 and 2.7.13: what a device finds in the available ring.
use Rattle.std.specs.Prelude.{◌≡◌, ◌≢◌, ℕ, ◌+◌, ◌<◌, ◌≤◌, ◌⊎◌, List, ◌++◌, length, take}
use Rattle.std.specs.Int.{w16, from_le_bytes}
use Rattle.guest_mem.specs.Memory.{bytes_at}
use Rattle.vring_split.specs.declared.fault.RingFault.{RingFault}
use Rattle.vring_split.specs.declared.fault.RingFault.TheVariants.{AvailJump, HeadRange}
use Rattle.vring_split.specs.declared.layout.Layout.{Layout}
use Rattle.vring_split.specs.declared.segment.Segment.{Segment}
use Rattle.vring_split.specs.Split.{avail_idx_addr, avail_entry_addr, distance}
use Rattle.vring_walk.specs.declared.walk.Fetched.{Fetched}
use Rattle.vring_walk.specs.declared.walk.Fetched.TheVariants.{Chain, Nothing, Bad, Crowded}
use Rattle.vring_walk.specs.Chain.{Look, Cover, IsChain, IsFirstFault}

-- the available index
unfoldable pub avail_idx : Look → Layout → ℕ
avail_idx look l = from_le_bytes w16 (bytes_at look (avail_idx_addr l) 2)

-- the head in the available ring's entry of a position
unfoldable pub avail_head : Look → Layout → ℕ → ℕ
avail_head look l position = from_le_bytes w16 (bytes_at look (avail_entry_addr l position) 2)

-- the driver has made an entry of the position available, and no more entries than the ring has
pub record IsAvailable (look : Look) (l : Layout) (position : ℕ) : Type 0 where
  pub moved : avail_idx look l ≢ position
  pub near : distance position (avail_idx look l) ≤ l.num

-- the chain that is available at a position
pub record HasChain
    (look : Look) (covers : Cover) (l : Layout) (position head : ℕ) (segments : List Segment) : Type 0 where
  pub available : IsAvailable look l position
  pub at : head ≡ avail_head look l position
  pub inside : head < l.num
  pub chain : IsChain look covers l head segments

-- what is wrong at a position: the index is too far ahead, or else the head is outside the table, or else the path
-- from it breaks a rule
abbrev pub HasFault : Look → Cover → Layout → ℕ → RingFault → Type 0
HasFault look covers l position fault =
    ((l.num < distance position (avail_idx look l)) × (fault ≡ AvailJump))
    ⊎ ((IsAvailable look l position × (l.num ≤ avail_head look l position) × (fault ≡ HeadRange))
    ⊎ (IsAvailable look l position × (avail_head look l position < l.num)
    × IsFirstFault look covers l (avail_head look l position) fault))

-- a room takes what it has places for of a chain with so many segments
abbrev pub TakesChain : Look → Cover → Layout → ℕ → List Segment → List Segment → ℕ → Type 0
TakesChain look covers l head old new count =
    (segments : List Segment) × IsChain look covers l head segments
    × (count ≡ length segments) × (new ≡ take 1024 (old ++ segments))

-- what a fetch at a position answers, and what it makes of a room of 1,024 places
abbrev pub Fetches : Look → Cover → Layout → ℕ → List Segment → Fetched → List Segment → Type 0
-- a chain that fits is appended
Fetches look covers l position old (Chain head) new =
    (segments : List Segment) × HasChain look covers l position head segments
    × (length old + length segments ≤ 1024) × (new ≡ old ++ segments)
-- nothing new is available
Fetches look covers l position old Nothing new = (avail_idx look l ≡ position) × (new ≡ old)
-- the ring is broken
Fetches look covers l position old (Bad fault) new = HasFault look covers l position fault × (new ≡ old)
-- a chain that does not fit
Fetches look covers l position old Crowded new =
    ((head : ℕ) × (segments : List Segment) × HasChain look covers l position head segments
    × (1024 < length old + length segments)) × (new ≡ old)
