-- This project's own: a step on a guest as it is told.
use Rattle.std.specs.Prelude.{ℕ}
use Rattle.tap_trace.specs.declared.kind.Kind.{Kind}
use Rattle.tap_trace.specs.declared.trace.StepLine.{StepLine}

-- the step that a command of an actor made
abbrev pub step_by : ℕ → ℕ → Kind → StepLine
step_by actor command kind = record { actor = actor; command = command; kind = kind }
