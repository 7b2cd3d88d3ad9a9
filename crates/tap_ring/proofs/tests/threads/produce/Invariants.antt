use Rattle.std.proofs.Common.{◌≡◌}
use Rattle.tap_ring.proofs.tests.threads.produce.Given as goal

abbrev pub invariant-loop-turn : goal.invariant-loop-turn
invariant-loop-turn g l = l.p.ring ≡ l.fn.ring.ring
