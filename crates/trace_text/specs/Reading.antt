-- This project's own: what the reader of a trace does with a line.
use Rattle.std.specs.Prelude.{◌≡◌, ℕ, Bool, true, false, not, ◌==◌, List, ◌∷◌, ◌++◌, Option, Some, None}
use Rattle.std.specs.List.{list_all}
use Rattle.tap_trace.specs.declared.trace.Trace.{Trace}
use Rattle.trace_words.specs.Said.{Says}
use Rattle.trace_words.specs.declared.said.Said.{Said}
use Rattle.trace_text.specs.declared.builder.Builder.{Builder}
use Rattle.trace_text.specs.declared.builder.Stage.{Stage}
use Rattle.trace_text.specs.declared.builder.Stage.TheVariants.{Start, Inside, Ended}
use Rattle.trace_text.specs.Building.{step}

-- ---- a line

-- bytes without LF
abbrev pub IsInner : List ℕ → Type 0
IsInner bytes = list_all (λ b. not (b == 10)) bytes ≡ true

-- the first line of some bytes, and what stands behind its LF
abbrev pub IsCut : List ℕ → List ℕ → List ℕ → Type 0
IsCut bytes line rest = IsInner line × (bytes ≡ line ++ 10 ∷ rest)

-- no line that says this can stand behind what is built
abbrev pub CantStand : Builder → List ℕ → Type 0
CantStand b line = (s : Said) (c : Builder) → Says line s → step b s ≡ Some c → ⊥

-- whether the line was taken, and what is built then
abbrev pub TakesLine : Builder → List ℕ → Bool → Builder → Type 0
TakesLine old line true new = (s : Said) × Says line s × (step old s ≡ Some new)
TakesLine old line false new = CantStand old line

-- the trace, behind `end`
abbrev pub at_stage : Stage → Trace → Option Trace
at_stage Start t = None
at_stage Inside t = None
at_stage Ended t = Some t

abbrev pub ended_trace : Builder → Option Trace
ended_trace b = at_stage b.stage b.trace
