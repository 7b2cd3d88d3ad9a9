use Rattle.std.proofs.Common.{◌≡◌, vec_len}
use Rattle.bench_threads.proofs.gated.send.Given as goal

abbrev pub decreases-loop-frame : goal.decreases-loop-frame
decreases-loop-frame g l = vec_len l.frames

abbrev pub invariant-loop-frame : goal.invariant-loop-frame
invariant-loop-frame g l = l.p.ring ≡ l.fn.ring.ring
