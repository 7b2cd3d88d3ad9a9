-- VIRTIO 1.2, 2.7.7 to 2.7.14: what a device makes of a ring that it serves, one change for each kind of step. How many
-- segments it gathers at most is this project's own.
use Rattle.std.specs.Prelude.{ℕ, ◌+◌, ◌-◌, ◌==◌, Bool, not, ◌||◌, List, [], ◌∷◌, ◌++◌, length, All, IsTrue, Option, None, Some, if◌then◌else◌}
use Rattle.guest_mem.specs.Memory.{Contents, byte_at, covers}
use Rattle.vring_split.specs.declared.fault.RingFault.{RingFault}
use Rattle.vring_split.specs.declared.layout.Layout.{Layout}
use Rattle.vring_split.specs.declared.segment.Segment.{Segment}
use Rattle.vring_split.specs.Split.{number_of_fault}
use Rattle.vring_walk.specs.declared.walk.Fetched.{Fetched}
use Rattle.vring_walk.specs.declared.walk.Fetched.TheVariants.{Chain, Nothing, Bad, Crowded}
use Rattle.vring_walk.specs.Fetched.{fetched}
pub use Rattle.vring_walk.specs.Spread.{bytes_in}
use Rattle.vhost_queue.specs.declared.done.Done.{Done}
use Rattle.vhost_queue.specs.Positions.{Positions, before, served, rewound, with_done}
use Rattle.vhost_queue.specs.Queue.{Queue}
use Rattle.vhost_queue.specs.Publication.{noticed_in, published_in, with_published, next_used, wants_notice}
use Rattle.tap_ledger.specs.declared.act.Act.{Act}
use Rattle.tap_ledger.specs.declared.act.Act.TheVariants as act

-- a chain that was fetched: its head and its segments
pub record Gathered : Type 0 where
  pub head : ℕ
  pub segments : List Segment

-- a ring under a turn: what is kept of its queue, and the chains that were fetched and aren't done, in their order
pub record Ring : Type 0 where
  pub queue : Queue
  pub chains : List Gathered

-- what a step makes of a ring and a memory, and what it tells
pub record Made : Type 0 where
  pub ring : Ring
  pub memory : Contents
  pub told : Act

-- the segments of chains, one after the other
abbrev pub segments_of : List Gathered → List Segment
segments_of [] = []
segments_of (c ∷ cs) = c.segments ++ segments_of cs

-- how many bytes chains have
abbrev pub room_in : List Gathered → ℕ
room_in [] = 0
room_in (c ∷ cs) = bytes_in c.segments + room_in cs

-- the segments of chains lie in a memory, of which a test tells whether the bytes from an address on are there
abbrev pub LieIn : (ℕ → ℕ → Bool) → List Gathered → Type 0
LieIn covers [] = Unit {0}
LieIn covers (c ∷ cs) = All (λ s. IsTrue (covers s.addr s.len)) c.segments × LieIn covers cs

-- the ring with other lists of positions, and with other gathered chains
abbrev pub moved : (Positions → Positions) → List Gathered → Ring → Ring
moved change chains r = record {
  queue = record r.queue { positions = change r.queue.positions };
  chains = chains;
}

-- the position of the first chain that is gathered
abbrev pub first_position : Ring → ℕ
first_position r = before r.queue.positions.next (length r.chains)

-- how many chains are done and not published
abbrev pub done_in : Queue → ℕ
done_in q = length q.positions.done

-- Notices.

-- 2.7.10: notices are turned on or off; nothing is written where they are turned off and event indexes tell of them
abbrev pub noticed : Bool → Ring → Contents → Made
noticed on r m = record {
  ring = r;
  memory = noticed_in on r.queue m;
  told = act.Notices on (on || not r.queue.layout.event);
}

-- Fetches.

-- 2.7.13: what is found at a position, where these chains leave places for segments
abbrev pub found_behind : List Gathered → Contents → Layout → ℕ → Fetched × List Segment
found_behind chains m l position =
    fetched (byte_at m) (covers m.regions) l position (1024 - length (segments_of chains))

-- what is found at the next position
abbrev pub found : Ring → Contents → Fetched × List Segment
found r m = found_behind r.chains m r.queue.layout r.queue.positions.next

-- the chains with the one that was found, if one was
abbrev pub with_found : Fetched → List Segment → List Gathered → List Gathered
with_found (Chain head) segments chains = chains ++ record { head = head; segments = segments } ∷ []
with_found Nothing segments chains = chains
with_found Crowded segments chains = chains
with_found (Bad fault) segments chains = chains

-- a fault stops the ring
abbrev pub halted : RingFault → Ring → Ring
halted fault r = record r { queue = record r.queue { stopped = Some fault } }

-- the ring after a fetch: a chain is gathered, a fault stops it, and else it stays
abbrev pub joined : Fetched → List Segment → Ring → Ring
joined (Chain head) segments r = moved served (with_found (Chain head) segments r.chains) r
joined Nothing segments r = r
joined Crowded segments r = r
joined (Bad fault) segments r = halted fault r

-- what a fetch at a position tells
abbrev pub told_of : ℕ → Fetched → Act
told_of position (Chain head) = act.Fetch position head
told_of position Nothing = act.Nothing
told_of position Crowded = act.Crowded
told_of position (Bad fault) = act.Halt (number_of_fault fault)

abbrev pub fetches : Ring → Contents → Made
fetches r m = record {
  ring = joined (found r m).0 (found r m).1 r;
  memory = m;
  told = told_of r.queue.positions.next (found r m).0;
}

-- all chains that are gathered stand at their positions again
abbrev pub all_rewound : Ring → Ring
all_rewound r = moved (rewound (length r.chains)) [] r

-- Chains that are done.

-- the first of the chains that are gathered are done, with these heads and lengths
abbrev pub with_all_done : List Done → Positions → Positions
with_all_done [] p = p
with_all_done (d ∷ ds) p = with_all_done ds (with_done d.head d.len p)

-- 2.7.8, 2.7.7: what is done is published, if anything is, and whether the driver wants a notice is told
abbrev pub publishes : Ring → Contents → Option Made
publishes r m =
    if done_in r.queue == 0 then None
    else Some (record {
      ring = record r { queue = with_published r.queue };
      memory = published_in r.queue m;
      told = act.Publish (done_in r.queue)
          (wants_notice r.queue.layout r.queue.used (next_used r.queue) (published_in r.queue m));
    })
