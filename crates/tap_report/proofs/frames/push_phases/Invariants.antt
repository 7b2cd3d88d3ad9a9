use Rattle.std.proofs.Common.{◌≡◌, ◌++◌, take}
use Rattle.std.specs.List.{flat_map}
use Rattle.tap_report.specs.Frames.{phase_frames}
use Rattle.tap_report.proofs.frames.push_phases.Given as goal

abbrev pub invariant-loop-phase : goal.invariant-loop-phase
invariant-loop-phase l = l.out ≡ l.fn.out ++ flat_map (phase_frames l.index) (take l.phase-index l.phases)
