use Rattle.std.proofs.Common.{◌≡◌}
use Rattle.tap_ring.proofs.tests.threads.take_to.Given as goal

abbrev pub invariant-loop : goal.invariant-loop
invariant-loop g l = record {
  next : (goal.iterator-loop g).can_next l.iterator';
  finite : (goal.iterator-loop g).is_finite l.iterator';
  ring : l.c.ring ≡ l.fn.c.ring;
}
