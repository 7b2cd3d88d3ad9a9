use Rattle.std.proofs.Common.{◌≡◌, take, map}
use Rattle.tap_told.specs.Phases.{commands_of}
use Rattle.tap_told.proofs.commands.commands_of.Given as goal

abbrev pub invariant-loop-phase : goal.invariant-loop-phase
invariant-loop-phase l = map (λ c. c.now) l.commands.items ≡ commands_of (take l.phase-index l.phases)
