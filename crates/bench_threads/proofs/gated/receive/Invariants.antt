use Rattle.std.proofs.Common.{◌≡◌}
use Rattle.bench_threads.proofs.gated.receive.Given as goal

abbrev pub invariant-loop : goal.invariant-loop
invariant-loop g l = record {
  next : (goal.iterator-loop g).can_next l.iterator';
  finite : (goal.iterator-loop g).is_finite l.iterator';
  ring : l.c.ring ≡ l.fn.ring.ring;
}
