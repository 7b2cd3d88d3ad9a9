-- This project's own: lists of calls on a packed queue, and the chains that they publish.
use Rattle.std.specs.Prelude.{◌≡◌, ℕ, ◌-◌, ◌<◌, ◌≤◌, List, [], ◌∷◌, ◌++◌, length, map, take, Option, None, Some, IsSome}
use Rattle.vhost_queue.specs.Positions.{positions_from}
use Rattle.vhost_queue.specs.Queue.{most_gathered, room_in, turn_places}
use Rattle.vring_packed.specs.declared.chain.PackedChain.{PackedChain}
use Rattle.vring_packed.specs.declared.fetched.PackedFetched.{PackedFetched}
use Rattle.vring_packed.specs.declared.layout.PackedLayout.{PackedLayout}
use Rattle.vring_packed.specs.declared.done.PackedDone.{PackedDone}
use Rattle.vring_packed.specs.declared.place.Place.{Place}
use Rattle.vring_packed.specs.Packed.{place_after}
use Rattle.vring_packed.specs.Publication.{place_behind}
use Rattle.vring_packed.specs.Queue.{PackedQueue, first_queue, lists_of, with_fetched, with_served, start_of, with_rewound, with_finished, with_published, IsEarliest}

-- a call on a queue: a fetch that answered so, a chain served, chains rewound, a chain with this id done with so many
-- bytes, a publication, and a reservation for a turn
pub data Call : Type 0 where
  Fetch : PackedFetched → Call
  Serve : Call
  Rewind : ℕ → Call
  Finish : ℕ → ℕ → Call
  Publish : Call
  Ready : Call

-- what a call makes of a queue
abbrev pub made_by : Call → PackedQueue → PackedQueue
made_by (Fetch answer) q = with_fetched answer q
made_by Serve q = with_served q.fetched q
made_by (Rewind count) q = with_rewound count q
made_by (Finish head len) q = with_finished q.served len q
made_by Publish q = with_published q
made_by Ready q = record q { reserved = turn_places }

-- a queue's condition for a call
abbrev pub MayCall : Call → PackedQueue → Type 0
MayCall (Fetch answer) q = Unit {0}
MayCall Serve q = (length q.served < most_gathered) × IsSome q.fetched
MayCall (Rewind count) q = count ≤ length q.served
MayCall (Finish head len) q = IsEarliest q.served head × (0 < room_in (lists_of q) q.reserved)
MayCall Publish q = Unit {0}
MayCall Ready q = Unit {0}

-- the chains that were fetched, served and not rewound, each with its place, after a call
abbrev pub chain_in : Option PackedChain → List PackedChain
chain_in None = []
chain_in (Some c) = c ∷ []

abbrev pub kept_by : Call → PackedQueue → List PackedChain → List PackedChain
kept_by (Fetch answer) q kept = kept
kept_by Serve q kept = kept ++ chain_in q.fetched
kept_by (Rewind count) q kept = take (length kept - count) kept
kept_by (Finish head len) q kept = kept
kept_by Publish q kept = kept
kept_by Ready q kept = kept

-- chains that are done, each with the place at which a publication uses it
abbrev pub used_from : ℕ → Place → List PackedDone → List PackedChain
used_from num p [] = []
used_from num p (d ∷ ds) =
    record { place = p; id = d.id; count = d.count } ∷ used_from num (place_after num p d.count) ds

abbrev pub used_in : PackedQueue → List PackedChain
used_in q = used_from q.layout.num q.used q.done

-- the chains that were published, each with the place at which it was used, after a call
abbrev pub used_by : Call → PackedQueue → List PackedChain → List PackedChain
used_by (Fetch answer) q used = used
used_by Serve q used = used
used_by (Rewind count) q used = used
used_by (Finish head len) q used = used
used_by Publish q used = used ++ used_in q
used_by Ready q used = used

-- the same of a list of calls
abbrev pub made_by_all : List Call → PackedQueue → PackedQueue
made_by_all [] q = q
made_by_all (call ∷ calls) q = made_by_all calls (made_by call q)

abbrev pub kept_by_all : List Call → PackedQueue → List PackedChain → List PackedChain
kept_by_all [] q kept = kept
kept_by_all (call ∷ calls) q kept = kept_by_all calls (made_by call q) (kept_by call q kept)

abbrev pub used_by_all : List Call → PackedQueue → List PackedChain → List PackedChain
used_by_all [] q used = used
used_by_all (call ∷ calls) q used = used_by_all calls (made_by call q) (used_by call q used)

abbrev pub MayCallAll : List Call → PackedQueue → Type 0
MayCallAll [] q = Unit {0}
MayCallAll (call ∷ calls) q = MayCall call q × MayCallAll calls (made_by call q)

-- these chains were published, then done, then served, in their order, each once and at its place; the list of what was
-- published has their ids, and its k-th has the position k, mod 65,536; and behind what is done, where the next chain
-- is used, stands the earliest that was served, or the next one
pub record AreOnce (kept used : List PackedChain) (q : PackedQueue) : Type 0 where
  pub each : kept ≡ used ++ (used_in q ++ q.served)
  pub ids : map (λ e. e.1) q.journal ≡ map (λ c. c.id) used
  pub positions : map (λ e. e.0) q.journal ≡ positions_from 0 (length q.journal)
  pub behind : place_behind q.layout.num q.used q.done ≡ start_of q.served q.next

-- For every list of calls, what is published are the chains that were fetched, served and not rewound, once, in their
-- order, and each at the place at which it was fetched.
abbrev pub EachIsOnce : Type 0
EachIsOnce =
    (l : PackedLayout) (calls : List Call)
    → MayCallAll calls (first_queue l)
    → AreOnce (kept_by_all calls (first_queue l) []) (used_by_all calls (first_queue l) [])
    (made_by_all calls (first_queue l))
