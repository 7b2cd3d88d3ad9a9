-- This project's own: how a receive worker is kept.
use Rattle.std.specs.Prelude.{IsTrue}
use Rattle.vring_turns.specs.TransmitBytes.{is_header_size}
use Rattle.vhost_rx.specs.declared.worker.RxWorker.TheInside.{Inside}
use Rattle.vhost_rx.specs.Worker.{Worker}

-- the worker that the fields stand for
abbrev pub worker_of : Inside → Worker
worker_of w = record {
  turn = record {
    mergeable = w.mergeable;
    header = w.hdr;
    packets = w.packets;
    bytes = w.bytes;
    handled = w.handled;
    held = w.held;
    chains = w.chains;
    stage = w.stage;
  };
  layout = w.ring;
  next = w.next;
}

-- the header is 10 or 12 bytes
abbrev pub HasHeader : Inside → Type 0
HasHeader w = IsTrue (is_header_size w.hdr)
