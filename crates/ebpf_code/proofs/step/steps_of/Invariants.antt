use Rattle.std.proofs.Common.{◌≡◌, ◌<◌, ◌+◌, length, ℕ}
use Rattle.std.specs.Prelude.{slice_get, Some}
use Rattle.ebpf_code.specs.Step.{step_in}
use Rattle.ebpf_code.proofs.step.steps_of.Given as goal

abbrev pub invariant-loop-place : goal.invariant-loop-place
invariant-loop-place l = record {
  long : length l.steps.items ≡ l.place;
  each : (p : ℕ) → p < l.place → slice_get l.steps.items p ≡ Some (step_in (slice_get l.slots p) (slice_get l.slots (p + 1)));
}
