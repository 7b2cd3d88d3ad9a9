use Rattle.std.proofs.Common.{◌≡◌, ◌≤◌, take, reverse}
use Rattle.std.specs.List.{count_by}
use Rattle.tap_trace.specs.declared.trace.StepLine.{StepLine}
use Rattle.tap_report.specs.Turns.{calls, copies, first_told, step_stops}
use Rattle.tap_report.proofs.rings.step_sums.Given as goal

abbrev pub invariant-loop-step : goal.invariant-loop-step
invariant-loop-step l = record {
  few_copied : l.copied ≤ l.step-index;
  few_called : l.called ≤ l.step-index;
  copied : l.copied ≡ count_by (λ (s : StepLine). copies l.vhost l.ring s.kind) (take l.step-index l.steps);
  called : l.called ≡ count_by (λ (s : StepLine). calls l.vhost l.ring s.kind) (take l.step-index l.steps);
  told : l.told ≡ first_told (step_stops l.roles l.vhost l.ring) (reverse (take l.step-index l.steps));
}
