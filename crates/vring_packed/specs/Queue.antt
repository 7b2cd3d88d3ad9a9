-- VIRTIO 1.2, 2.8, and this project's own: what a device keeps of a packed ring that it serves, and what each call
-- makes of it.
use Rattle.std.specs.Prelude.{◌≡◌, ℕ, ◌-◌, List, [], ◌∷◌, ◌++◌, length, map, take, drop, Option, None, Some}
use Rattle.vhost_queue.specs.declared.done.Done.{Done}
use Rattle.vhost_queue.specs.Positions.{Positions, Published, after, before, all_published}
use Rattle.vring_packed.specs.declared.chain.PackedChain.{PackedChain}
use Rattle.vring_packed.specs.declared.done.PackedDone.{PackedDone}
use Rattle.vring_packed.specs.declared.fetched.PackedFetched.{PackedFetched}
use Rattle.vring_packed.specs.declared.fetched.PackedFetched.TheVariants.{Chain, Nothing, Bad, Crowded}
use Rattle.vring_packed.specs.declared.layout.PackedLayout.{PackedLayout}
use Rattle.vring_packed.specs.declared.place.Place.{Place}
use Rattle.vring_packed.specs.Packed.{first_place, place_after}
use Rattle.vring_packed.specs.Publication.{place_behind}

-- the ring's layout; the place and the position of the next chain; the chain that was fetched there and may be served
-- now; the chains that were served and aren't done, then those that are done and aren't published, the earliest first;
-- the place at which the next one is published; all that were published; how many places for these are reserved
pub record PackedQueue : Type 0 where
  pub layout : PackedLayout
  pub next : Place
  pub position : ℕ
  pub fetched : Option PackedChain
  pub served : List PackedChain
  pub done : List PackedDone
  pub used : Place
  pub journal : List Published
  pub reserved : ℕ

-- a queue as it begins
abbrev pub first_queue : PackedLayout → PackedQueue
first_queue l = record {
  layout = l;
  next = first_place;
  position = 0;
  fetched = None;
  served = [];
  done = [];
  used = first_place;
  journal = [];
  reserved = 0;
}

-- its lists of positions, as those of a ring of any kind
abbrev pub done_of : PackedDone → Done
done_of d = record { head = d.id; len = d.len }

abbrev pub lists_of : PackedQueue → Positions
lists_of q =
    record { next = q.position; gathered = length q.served; done = map done_of q.done; journal = q.journal }

-- What the calls change.

-- a fetch at the next place answered so
abbrev pub chain_of : Place → PackedFetched → Option PackedChain
chain_of p (Chain id count) = Some (record { place = p; id = id; count = count })
chain_of p Nothing = None
chain_of p (Bad fault) = None
chain_of p Crowded = None

abbrev pub with_fetched : PackedFetched → PackedQueue → PackedQueue
with_fetched answer q = record q { fetched = chain_of q.next answer }

-- a chain that was fetched was served
abbrev pub with_served : Option PackedChain → PackedQueue → PackedQueue
with_served None q = q
with_served (Some c) q = record q {
  next = place_after q.layout.num q.next c.count;
  position = after q.position 1;
  fetched = None;
  served = q.served ++ c ∷ [];
}

-- so many chains, the latest ones served, stand at their places again
abbrev pub start_of : List PackedChain → Place → Place
start_of [] p = p
start_of (c ∷ cs) p = c.place

abbrev pub with_rewound : ℕ → PackedQueue → PackedQueue
with_rewound count q =
    let kept = length q.served - count in
    record q {
      next = start_of (drop kept q.served) q.next;
      position = before q.position count;
      fetched = None;
      served = take kept q.served;
    }

-- the earliest of the chains that were served is done, and so many bytes were written into it
abbrev pub with_finished : List PackedChain → ℕ → PackedQueue → PackedQueue
with_finished [] len q = q
with_finished (c ∷ cs) len q =
    record q { served = cs; done = q.done ++ record { id = c.id; count = c.count; len = len } ∷ [] }

-- what is done was published
abbrev pub with_published : PackedQueue → PackedQueue
with_published q = record q {
  done = [];
  used = place_behind q.layout.num q.used q.done;
  journal = (all_published (lists_of q)).journal;
  reserved = q.reserved - length q.done;
}

-- this head is the id of the earliest of the chains that were served and aren't done
abbrev pub IsEarliest : List PackedChain → ℕ → Type 0
IsEarliest [] head = ⊥
IsEarliest (c ∷ cs) head = head ≡ c.id
