use Rattle.std.proofs.Common.{◌≡◌, ◌+◌, ◌≤◌, drop, length}
use Rattle.vhost_queue.specs.Queue.{room_of}
use Rattle.vring_turns.specs.Ring.{with_all_done}
use Rattle.vhost_rx.specs.Kept.{kept_shares}
use Rattle.vhost_rx.proofs.chains.finish_all.Given as goal

abbrev pub invariant-loop-chain : goal.invariant-loop-chain
invariant-loop-chain l = record {
  small : l.left ≤ l.initial.left;
  gathered : l.vq.queue.positions.gathered + l.chain-index ≡ length l.kept;
  room : length l.kept ≤ room_of l.vq + l.chain-index;
  done : record l.vq {
    queue = record l.vq.queue {
      positions = with_all_done (kept_shares (drop l.chain-index l.kept) l.left) l.vq.queue.positions;
    };
  }
      ≡ record l.initial.vq {
        queue = record l.initial.vq.queue {
          positions = with_all_done (kept_shares l.kept l.initial.left) l.initial.vq.queue.positions;
        };
      };
}
