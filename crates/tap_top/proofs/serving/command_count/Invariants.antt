use Rattle.std.proofs.Common.{◌≡◌, take}
use Rattle.tap_top.specs.Top.{command_count}
use Rattle.tap_top.proofs.serving.command_count.Given as goal

abbrev pub invariant-loop-phase : goal.invariant-loop-phase
invariant-loop-phase l = l.count ≡ command_count (take l.phase-index l.phases)
