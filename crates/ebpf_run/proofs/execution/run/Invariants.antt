use Rattle.std.proofs.Common.{◌-◌, ◌≤◌}
use Rattle.ebpf_code.specs.Faults.{slot_count}
use Rattle.ebpf_run.proofs.Runs.{Going}
use Rattle.ebpf_run.proofs.execution.run.Given as goal

abbrev pub invariant-turns : goal.invariant-turns
invariant-turns g l = record {
  counted : l.fn.steps ≤ l.steps;
  going : Going l.program l.frame l.machine.registers l.place (l.steps - l.fn.steps);
}

abbrev pub decreases-turns : goal.decreases-turns
decreases-turns g l = slot_count l.program - l.place
