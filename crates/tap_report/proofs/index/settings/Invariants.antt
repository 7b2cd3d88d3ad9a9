use Rattle.std.proofs.Common.{◌≡◌, take}
use Rattle.std.specs.List.{flat_map}
use Rattle.tap_report.specs.Index.{phase_settings}
use Rattle.tap_report.proofs.index.settings.Given as goal

abbrev pub invariant-loop-phase : goal.invariant-loop-phase
invariant-loop-phase l = l.out ≡ flat_map (phase_settings l.wanted l.names) (take l.phase-index l.phases)
