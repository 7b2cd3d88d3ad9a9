use Rattle.std.specs.VecDeque.{deque_len}
use Rattle.tap_ledger.proofs.mem_queue.MemQueue.abandon.Given as goal

abbrev pub decreases-loop-frame : goal.decreases-loop-frame
decreases-loop-frame l = deque_len l.frames
