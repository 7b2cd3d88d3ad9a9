use Rattle.std.proofs.Common.{vec_len}
use Rattle.tap_ring.proofs.tests.threads.whole_line.Given as goal

abbrev pub invariant-loop-frame : goal.invariant-loop-frame
invariant-loop-frame g l = Unit {0}

abbrev pub decreases-loop-frame : goal.decreases-loop-frame
decreases-loop-frame g l = vec_len l.left
