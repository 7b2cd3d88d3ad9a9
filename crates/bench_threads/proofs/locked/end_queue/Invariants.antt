use Rattle.std.proofs.Common.{deque_len}
use Rattle.bench_threads.proofs.locked.end_queue.Given as goal

abbrev pub decreases-loop-frame : goal.decreases-loop-frame
decreases-loop-frame l = deque_len l.frames
