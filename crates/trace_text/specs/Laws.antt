-- This project's own: what traces and their texts have to do with one another.
use Rattle.std.specs.Prelude.{◌≡◌, ℕ, List}
use Rattle.tap_trace.specs.declared.trace.Trace.{Trace}
use Rattle.trace_text.specs.BadLine.{IsBadLine}
use Rattle.trace_text.specs.Ordered.{FitTrace}
use Rattle.trace_text.specs.TraceText.{trace_text}

-- two traces with one text are one
abbrev pub OneText : Type 0
OneText = (s t : Trace) → FitTrace s → FitTrace t → trace_text s ≡ trace_text t → s ≡ t

-- two numbers that are first bad lines of one text are equal
abbrev pub OneBadLine : Type 0
OneBadLine = (bytes : List ℕ) (m n : ℕ) → IsBadLine bytes m → IsBadLine bytes n → m ≡ n
