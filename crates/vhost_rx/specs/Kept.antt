-- This project's own: how the chains of a frame are kept: a head, a number of segments and a number of bytes for each,
-- and all segments one after the other.
use Rattle.std.specs.Prelude.{◌≡◌, ℕ, ◌*◌, ◌^◌, ◌-◌, ◌≤◌, min, List, [], ◌∷◌, length, take, drop, vec_len, vec_capacity}
use Rattle.vring_split.specs.declared.segment.Segment.{Segment}
use Rattle.vhost_queue.specs.declared.done.Done.{Done}
use Rattle.vring_turns.specs.Ring.{Gathered, bytes_in, room_in}
use Rattle.vhost_rx.specs.declared.chains.Chain.{Chain}
use Rattle.vhost_rx.specs.declared.chains.Chains.TheInside.{Inside}

-- the chains whose segments stand one after the other
abbrev pub split_into : List Chain → List Segment → List Gathered
split_into [] segments = []
split_into (c ∷ cs) segments =
    record { head = c.head; segments = take c.segments segments } ∷ split_into cs (drop c.segments segments)

-- each chain has its segments, they have its bytes, and there are no others
abbrev pub AreSplit : List Chain → List Segment → Type 0
AreSplit [] segments = segments ≡ []
AreSplit (c ∷ cs) segments =
    (c.segments ≤ length segments) × (c.bytes ≡ bytes_in (take c.segments segments))
    × AreSplit cs (drop c.segments segments)

abbrev pub chains_of : Inside → List Gathered
chains_of c = split_into c.kept.items c.room

pub record HasChains (c : Inside) : Type 0 where
  pub split : AreSplit c.kept.items c.room
  pub counted : vec_len c.kept ≡ length c.kept.items
  pub places : 1024 ≤ vec_capacity c.kept
  pub had : c.had ≡ room_in (split_into c.kept.items c.room)
  pub small : c.had ≤ 2 ^ 32 * length c.room

-- how many of so many bytes each of them gets
abbrev pub kept_shares : List Chain → ℕ → List Done
kept_shares [] n = []
kept_shares (c ∷ cs) n = record { head = c.head; len = min c.bytes n } ∷ kept_shares cs (n - c.bytes)
