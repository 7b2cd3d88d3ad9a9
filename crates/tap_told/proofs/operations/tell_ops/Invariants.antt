use Rattle.std.proofs.Common.{◌≡◌, ◌+◌, drop}
use Rattle.tap_world.specs.Project.{with_versions}
use Rattle.tap_world.specs.Setup.{setup_of}
use Rattle.tap_told.specs.Phases.{ops_told}
use Rattle.tap_told.proofs.operations.tell_ops.Given as goal

abbrev pub invariant-loop-index : goal.invariant-loop-index
invariant-loop-index l =
    ops_told (setup_of l.scenario) l.parts (with_versions (l.index + 1) (drop l.index l.ops))
    ≡ ops_told (setup_of l.scenario) l.fn.parts (with_versions 1 l.ops)
