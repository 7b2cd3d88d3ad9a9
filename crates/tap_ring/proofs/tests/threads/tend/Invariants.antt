use Rattle.std.proofs.Common.{◌≡◌, false}
use Rattle.tap_ring.proofs.tests.threads.tend.Given as goal

abbrev pub invariant-loop-round : goal.invariant-loop-round
invariant-loop-round g l = record {
  consumer : l.c.ring ≡ l.fn.ring.ring;
  keeper : l.k.ring ≡ l.fn.ring.ring;
  unshut : l.k.view.gate.shut ≡ false;
}
