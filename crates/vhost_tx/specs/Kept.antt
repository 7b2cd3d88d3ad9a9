-- This project's own: how a transmit worker is kept.
use Rattle.std.specs.Prelude.{ℕ, IsTrue, List, [], ◌∷◌, Option, None, Some}
use Rattle.vring_split.specs.declared.segment.Segment.{Segment}
use Rattle.vring_turns.specs.Ring.{Gathered}
use Rattle.vring_turns.specs.TransmitBytes.{is_header_size}
use Rattle.vhost_tx.specs.declared.worker.TxWorker.TheInside.{Inside}
use Rattle.vhost_tx.specs.Worker.{Worker}

-- the chain of a head with its segments, if one was fetched
abbrev pub chain_of : Option ℕ → List Segment → List Gathered
chain_of None segments = []
chain_of (Some head) segments = record { head = head; segments = segments } ∷ []

-- the worker that the fields stand for
abbrev pub worker_of : Inside → Worker
worker_of w = record {
  turn = record {
    header = w.hdr;
    first = w.name;
    packets = w.packets;
    bytes = w.bytes;
    accepted = w.accepted;
    chains = chain_of w.head w.room;
    held = w.held;
    stage = w.stage;
  };
  layout = w.ring;
  next = w.next;
}

-- the header is 10 or 12 bytes
abbrev pub HasSize : Inside → Type 0
HasSize w = IsTrue (is_header_size w.hdr)
