use Rattle.std.proofs.Common.{◌≡◌, take}
use Rattle.std.specs.List.{flat_map}
use Rattle.tap_report.specs.Index.{phase_roles}
use Rattle.tap_report.proofs.index.roles.Given as goal

abbrev pub invariant-loop-phase : goal.invariant-loop-phase
invariant-loop-phase l = l.out ≡ flat_map phase_roles (take l.phase-index l.phases)
