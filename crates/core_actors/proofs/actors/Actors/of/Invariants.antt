use Rattle.std.proofs.Common.{◌≡◌}
use Rattle.std.specs.Prelude.{replicate}
use Rattle.core_actors.specs.Acting.{idle}
use Rattle.core_actors.proofs.actors.Actors.of.Given as goal

abbrev pub invariant-loop : goal.invariant-loop
invariant-loop l = l.actors ≡ replicate l.counter (idle l.seen)
