use Rattle.std.proofs.Common.{◌≡◌}
use Rattle.std.specs.Prelude.{take}
use Rattle.core_actors.proofs.Places.{given}
use Rattle.core_actors.proofs.actors.Actors.of_phase.Given as goal

abbrev pub invariant-loop-place : goal.invariant-loop-place
invariant-loop-place l = l.actors ≡ given l.seen (take l.place l.line-items) 0 l.phase.actors
