-- This project's own: where the next step of a turn may be made.
use Rattle.std.specs.Prelude.{◌≡◌, ◌<◌}
use Rattle.guest_mem.specs.Memory.{Contents, covers}
use Rattle.vhost_queue.specs.Queue.{Reserved, IsGood}
use Rattle.tap_ledger.specs.Host.{HostState}
use Rattle.tap_ledger.specs.Queue.{QueueState}
use Rattle.vring_turns.specs.Ring.{LieIn}
use Rattle.vhost_tx.specs.Worker as tx
use Rattle.vhost_rx.specs.Worker as rx

-- the ring is a good one in the memory, the worker fits its queue, what it fetched lies in the memory, and the host has
-- room
pub record MayTransmit (w : tx.Worker) (r : Reserved) (m : Contents) (host : HostState) : Type 0 where
  pub ring : IsGood r.queue m
  pub fits : tx.Fits w r
  pub lies : LieIn (covers m.regions) w.turn.chains
  pub room : 0 < host.room

-- the same, and the queue of frames has the worker's frame in hand, or none as the worker
pub record MayReceive (w : rx.Worker) (r : Reserved) (m : Contents) (q : QueueState) : Type 0 where
  pub ring : IsGood r.queue m
  pub fits : rx.Fits w r
  pub lies : LieIn (covers m.regions) w.turn.chains
  pub in_hand : q.in_hand ≡ rx.name_in_hand w
