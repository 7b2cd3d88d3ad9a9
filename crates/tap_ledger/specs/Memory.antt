-- This project's own: a queue and a host in memory.
use Rattle.std.specs.Prelude.{ℕ, ◌+◌, ◌-◌, ◌==◌, min, Bool, false, List, [], ◌∷◌, ◌++◌, length, take, drop, Some, None, if◌then◌else◌}
use Rattle.std.specs.List.{list_any}
use Rattle.tap_frame.specs.Frame.{FrameValue}
use Rattle.tap_ledger.specs.Queue.{QueueState}
use Rattle.tap_ground.specs.Counts.{one_more}

-- a queue in memory
pub record MemoryQueue : Type 0 where
  -- the place at which its line begins
  pub first : ℕ
  -- what it is as a queue
  pub queue : QueueState
  -- the frames that come behind the known ones, in their order
  pub coming : List FrameValue
  -- how many calls took a frame in hand, or tried to
  pub calls : ℕ
  -- the numbers of these calls, from 0, at which none is ready
  pub unready : List ℕ
  -- how many frames get known by one look at most
  pub most : ℕ

-- a queue without frames
abbrev pub empty_queue : ℕ → List ℕ → ℕ → MemoryQueue
empty_queue first unready most = record {
  first = first;
  queue = record {
    out = [];
    in_hand = None;
    waiting = [];
    is_off = false;
    looks = 0;
    found_none = false;
  };
  coming = [];
  calls = 0;
  unready = unready;
  most = most;
}

-- the place of the first frame that isn't out
abbrev pub front_place : MemoryQueue → ℕ
front_place q = q.first + length q.queue.out

-- whether the next call is listed as one at which none is ready
abbrev pub is_unready : MemoryQueue → Bool
is_unready q = list_any (λ call. call == q.calls) q.unready

-- how many frames a look finds now
abbrev pub found : MemoryQueue → ℕ
found q = if is_unready q then 0 else min q.most (length q.coming)

-- after a look: the frames that it found are known
abbrev pub looked : MemoryQueue → MemoryQueue
looked q = record q {
  queue = record q.queue {
    waiting = q.queue.waiting ++ take (found q) q.coming;
    looks = one_more q.queue.looks;
    found_none = found q == 0;
  };
  coming = drop (found q) q.coming;
}

-- it looks where no known frame waits
abbrev pub prepared_for : List FrameValue → MemoryQueue → MemoryQueue
prepared_for [] q = looked q
prepared_for (frame ∷ rest) q = q

abbrev pub prepared : MemoryQueue → MemoryQueue
prepared q = if q.queue.is_off then q else prepared_for q.queue.waiting q

-- the first of these frames is in hand, and the others wait
abbrev pub with_first_in_hand : List FrameValue → MemoryQueue → MemoryQueue
with_first_in_hand [] q = q
with_first_in_hand (frame ∷ rest) q = record q { queue = record q.queue { in_hand = Some frame.name; waiting = rest } }

-- one more call is over
abbrev pub called : MemoryQueue → MemoryQueue
called q = record q { calls = one_more q.calls }

-- the first that waits is in hand, but where the queue is off
abbrev pub taken : MemoryQueue → MemoryQueue
taken q = if q.queue.is_off then q else with_first_in_hand q.queue.waiting q

-- after a call that takes a frame in hand, or tries to
abbrev pub handed : MemoryQueue → MemoryQueue
handed q = taken (called (prepared q))
