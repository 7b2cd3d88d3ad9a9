use Rattle.std.proofs.Common.{◌≡◌, take}
use Rattle.std.specs.List.{flat_map}
use Rattle.tap_report.specs.Turns.{phase_turns}
use Rattle.tap_report.proofs.turns.turns.Given as goal

abbrev pub invariant-loop-phase : goal.invariant-loop-phase
invariant-loop-phase l = l.out ≡ flat_map (phase_turns l.roles) (take l.phase-index l.phases)
