use Rattle.std.proofs.Common.{◌≡◌, take, map}
use Rattle.tap_told.specs.Phases.{untold}
use Rattle.tap_told.proofs.phases.open_parts.Given as goal

abbrev pub invariant-loop-phase : goal.invariant-loop-phase
invariant-loop-phase l = l.parts.items ≡ map untold (take l.phase-index l.phases)
