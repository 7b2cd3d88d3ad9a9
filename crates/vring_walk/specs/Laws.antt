-- This project's own: what a path and a fetch can be.
use Rattle.std.specs.Prelude.{◌≡◌, ◌≢◌, ℕ, ◌+◌, ◌^◌, ◌<◌, ◌≤◌, ◌↔◌, true, List, length, min, take}
use Rattle.guest_mem.specs.Memory.{ByteList, value_at}
use Rattle.vring_split.specs.declared.layout.Layout.{Layout}
use Rattle.vring_split.specs.declared.segment.Segment.{Segment}
use Rattle.vring_walk.specs.declared.walk.Fetched.{Fetched}
use Rattle.vring_walk.specs.Chain.{Look, Cover, Place, Reaches, IsChain, IsUsable}
use Rattle.vring_walk.specs.Fetch.{Fetches}
use Rattle.vring_walk.specs.declared.walk.Fetched.TheVariants.{Crowded}
use Rattle.vring_walk.specs.Fetched.{AppendsFetched, fetched}
use Rattle.vring_walk.specs.Spread.{bytes_in, is_outside, laid, gathered, first_gathered}

-- two answers to one fetch are one, with one room
abbrev pub OneAnswer : Type 0
OneAnswer =
    (look : Look) (covers : Cover) (l : Layout) (position : ℕ) (old new other : List Segment) (a b : Fetched)
    → position < 2 ^ 16
    → Fetches look covers l position old a new → Fetches look covers l position old b other
    → (a ≡ b) × (new ≡ other)

-- a fetch answers and appends what the function gives, and nothing else
abbrev pub FetchesAsFunction : Type 0
FetchesAsFunction =
    (look : Look) (covers : Cover) (l : Layout) (position : ℕ) (old new : List Segment) (answer : Fetched)
    → position < 2 ^ 16 → length old ≤ 1024
    → Fetches look covers l position old answer new ↔ AppendsFetched look covers l position old answer new

-- where all 1,024 places are left, a fetch never finds too few
abbrev pub EmptyIsNotCrowded : Type 0
EmptyIsNotCrowded =
    (look : Look) (covers : Cover) (l : Layout) (position : ℕ) → (fetched look covers l position 1024).0 ≢ Crowded

-- a path has no more descriptors before any of its places than the queue size and 1,024
abbrev pub NoLongPath : Type 0
NoLongPath =
    (look : Look) (covers : Cover) (l : Layout) (head : ℕ) (behind : List Place) (p : Place)
    → Reaches look covers l head behind p → length behind ≤ l.num + 1024

-- the segments of a chain can be used
abbrev pub ChainsAreUsable : Type 0
ChainsAreUsable =
    (look : Look) (covers : Cover) (l : Layout) (head : ℕ) (segments : List Segment)
    → IsChain look covers l head segments → IsUsable covers l segments

-- bytes that are laid over segments leave every address that lies in none of them
abbrev pub LaidElsewhere : Type 0
LaidElsewhere =
    (bs : ByteList) (segments : List Segment) (xs : List ℕ) (a : ℕ)
    → is_outside segments a ≡ true → value_at (laid bs segments xs) a ≡ value_at bs a

-- the first bytes of segments are the front of all their bytes
abbrev pub FrontIsGathered : Type 0
FrontIsGathered =
    (bs : ByteList) (n : ℕ) (segments : List Segment)
    → first_gathered n bs segments ≡ take n (gathered bs segments)

-- the first n bytes of segments are n, or all where there are fewer
abbrev pub FirstAreCounted : Type 0
FirstAreCounted =
    (bs : ByteList) (n : ℕ) (segments : List Segment)
    → length (first_gathered n bs segments) ≡ min (bytes_in segments) n
