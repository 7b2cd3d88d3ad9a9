-- VIRTIO 1.2, 2.7.13, and this project's own: a device finds what a lawful driver posts.
use Rattle.std.specs.Prelude.{◌≡◌, ◌≢◌, ◌%◌, ℕ, ◌^◌, ◌<◌, ◌≤◌, Bool, true, false, List, [], ◌∷◌, length, drop, slice_index, Option, None}
use Rattle.std.specs.List.{AllByRecursion}
use Rattle.guest_mem.specs.Memory.{Contents, byte_at, bytes_at, covers}
use Rattle.guest_mem.specs.Regions.{IsSound}
use Rattle.vring_split.specs.declared.layout.Layout.{Layout}
use Rattle.vring_split.specs.declared.segment.Segment.{Segment}
use Rattle.vring_split.specs.Split.{desc_addr, desc_of, distance}
use Rattle.vring_drive.specs.Area.{slot_len, slot_at, layout_at}
use Rattle.vring_drive.specs.Books.{Books, HasArea, ring_of, chain_of, head_of}
use Rattle.vring_drive.specs.Posts.{desc_for, full_pieces, piece_lens, post_in_refusal, post_out_refusal, posted_in, posted_out}
use Rattle.tap_ground.specs.Lists.{times as times_in}
use Rattle.vring_drive.specs.Laws.{IsWhole}
use Rattle.vring_drive.specs.Harvests.{harvested_in}
use Rattle.vring_walk.specs.declared.walk.Fetched.TheVariants.{Chain}
use Rattle.vring_walk.specs.Fetch.{avail_idx, avail_head}
use Rattle.vring_walk.specs.Fetched.{fetched}
use Rattle.vring_walk.specs.Spread.{gathered}

-- each of these is a descriptor of a ring of this size, and none stands twice
abbrev pub AreApart : ℕ → List ℕ → Type 0
AreApart num [] = Unit {0}
AreApart num (d ∷ ds) = (d < num) × (times_in d ds ≡ 0) × AreApart num ds

-- each of these is a descriptor of the driver's ring that isn't free
abbrev pub AreTaken : Books → List ℕ → Type 0
AreTaken b [] = Unit {0}
AreTaken b (d ∷ ds) = (d < b.num) × (times_in d b.free ≡ 0) × AreTaken b ds

-- the descriptors of a chain stand in the ring's table as a post of these lengths writes them
abbrev pub StandLinked : (ℕ → Option ℕ) → Layout → Bool → List ℕ → List ℕ → Type 0
StandLinked look l w [] lens = Unit {0}
StandLinked look l w (d ∷ ds) lens =
    (desc_of (bytes_at look (desc_addr l d) 16) ≡ desc_for l w d (slice_index lens 0) ds)
    × StandLinked look l w ds (drop 1 lens)

-- a chain is on offer at a position: its head stands in the available ring, and its descriptors in the table
pub record IsOffered
    (m : Contents) (l : Layout) (position : ℕ) (writable : Bool) (chain lens : List ℕ) : Type 0 where
  pub head : avail_head (byte_at m) l position ≡ head_of chain
  pub linked : StandLinked (byte_at m) l writable chain lens

-- the segments of a chain: the front of each descriptor's data slot, of these lengths
abbrev pub segments_for : Layout → Bool → List ℕ → List ℕ → List Segment
segments_for l writable [] lens = []
segments_for l writable (d ∷ ds) lens =
    record { addr = slot_at l d; len = slice_index lens 0; write = writable } ∷ segments_for l writable ds (drop 1 lens)

-- a driver whose area lies in a memory, each of whose descriptors is kept once
pub record IsReady (b : Books) (m : Contents) : Type 0 where
  pub size : b.num ≤ 32768
  pub place : b.avail < 2 ^ 16
  pub whole : IsWhole b
  pub area : HasArea b m

-- the device finds the chain of a post at the driver's place, with all its segments
abbrev pub Finds : Books → Contents → Layout → Bool → List ℕ → Type 0
Finds b m l writable lens =
    let chain = chain_of (length lens) b in
    fetched (byte_at m) (covers m.regions) l b.avail 1024 ≡ (Chain (head_of chain), segments_for l writable chain lens)

-- a post of room that isn't refused, with no more pieces than a chain may have segments, is found on a receive ring,
-- whether indirect tables are used or not
abbrev pub PostInIsFound : Type 0
PostInIsFound =
    (b : Books) (m : Contents) (lens : List ℕ) (indirect : Bool)
    → IsReady b m → 0 < length lens → length lens ≤ 1024 → post_in_refusal lens b ≡ None
    → Finds b (posted_in b lens m) (layout_at b.start b.num b.event indirect true) true lens

-- and one of bytes on a transmit ring
abbrev pub PostOutIsFound : Type 0
PostOutIsFound =
    (b : Books) (m : Contents) (bytes : List ℕ) (indirect : Bool)
    → IsReady b m → full_pieces (length bytes) < 1024 → post_out_refusal (length bytes) b ≡ None
    → Finds b (posted_out b bytes m) (layout_at b.start b.num b.event indirect false) false (piece_lens (length bytes))

-- and the segments of those bytes have them, one after the other
abbrev pub PostOutIsRead : Type 0
PostOutIsRead =
    (b : Books) (m : Contents) (bytes : List ℕ) (indirect : Bool)
    → IsReady b m → IsSound m → post_out_refusal (length bytes) b ≡ None
    → let lens = piece_lens (length bytes) in
    gathered (posted_out b bytes m).bytes
    (segments_for (layout_at b.start b.num b.event indirect false) false (chain_of (length lens) b) lens) ≡ bytes

-- What is on offer.

-- a device finds what is on offer at a position that the available index has passed, by no more than the ring has
abbrev pub OfferIsFound : Type 0
OfferIsFound =
    (b : Books) (m : Contents) (position : ℕ) (writable indirect : Bool) (chain lens : List ℕ)
    → IsReady b m → IsOffered m (ring_of b) position writable chain lens
    → 0 < length chain → length chain ≤ 1024 → length chain ≤ b.num → AreApart b.num chain
    → AllByRecursion (λ n. n ≤ slot_len) lens
    → avail_idx (byte_at m) (ring_of b) ≢ position → distance position (avail_idx (byte_at m) (ring_of b)) ≤ b.num
    → fetched (byte_at m) (covers m.regions) (layout_at b.start b.num b.event indirect writable) position 1024
    ≡ (Chain (head_of chain), segments_for (layout_at b.start b.num b.event indirect writable) writable chain lens)

-- a post puts its chain on offer at the driver's place
abbrev pub PostsOffer : Type 0
PostsOffer =
    (b : Books) (m : Contents)
    → IsReady b m
    → ((lens : List ℕ) → 0 < length lens → post_in_refusal lens b ≡ None
    → IsOffered (posted_in b lens m) (ring_of b) b.avail true (chain_of (length lens) b) lens)
    × ((bytes : List ℕ) → post_out_refusal (length bytes) b ≡ None
    → IsOffered (posted_out b bytes m) (ring_of b) b.avail false
    (chain_of (length (piece_lens (length bytes))) b) (piece_lens (length bytes)))

-- and leaves every other offer whose descriptors aren't free, at a position with another entry of the available ring
abbrev pub PostsLeaveOffers : Type 0
PostsLeaveOffers =
    (b : Books) (m : Contents) (position : ℕ) (writable : Bool) (chain lens : List ℕ)
    → IsReady b m → IsOffered m (ring_of b) position writable chain lens
    → AreTaken b chain → position % b.num ≢ b.avail % b.num
    → ((room : List ℕ) → 0 < length room → post_in_refusal room b ≡ None
    → IsOffered (posted_in b room m) (ring_of b) position writable chain lens)
    × ((bytes : List ℕ) → post_out_refusal (length bytes) b ≡ None
    → IsOffered (posted_out b bytes m) (ring_of b) position writable chain lens)

-- a harvest leaves all of them
abbrev pub HarvestsLeaveOffers : Type 0
HarvestsLeaveOffers =
    (b : Books) (m : Contents) (position : ℕ) (writable : Bool) (chain lens : List ℕ)
    → IsReady b m → 0 < b.num → AreApart b.num chain → IsOffered m (ring_of b) position writable chain lens
    → IsOffered (harvested_in m b) (ring_of b) position writable chain lens
