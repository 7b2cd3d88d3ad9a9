use Rattle.std.proofs.Common.{vec_len}
use Rattle.bench_threads.proofs.locked.send.Given as goal

abbrev pub decreases-loop-frame : goal.decreases-loop-frame
decreases-loop-frame g l = vec_len l.frames
