-- This project's own: the first bad line of bytes that stand for no trace; and the parts of an input that has a
-- scenario, its trace, and what follows.
use Rattle.std.specs.Prelude.{◌≡◌, ℕ, suc, ◌+◌, ◌≤◌, Bool, not, ◌||◌, ◌==◌, List, [], ◌∷◌, ◌++◌, length, map, take, drop, take_while, codes}
use Rattle.std.specs.List.{flat_map, slice_split}
use Rattle.std.specs.Str.{bytes_eq}
use Rattle.tap_trace.specs.declared.trace.Trace.{Trace}
use Rattle.text_fields.specs.Lines.{ended, line_of}
use Rattle.trace_text.specs.Ordered.{FitTrace, StandsFor}
use Rattle.trace_text.specs.TraceText.{trace_lines}

-- ---- lines

-- all parts but the last: what stands behind the last LF is no ended line
abbrev pub but_last : List (List ℕ) → List (List ℕ)
but_last [] = []
but_last (part ∷ []) = []
but_last (part ∷ parts) = part ∷ but_last parts

-- the lines that have their LF
abbrev pub ended_lines : List ℕ → List (List ℕ)
ended_lines bytes = but_last (slice_split (λ b. b == 10) bytes)

-- ---- the first bad line

-- some trace's text begins with these lines
abbrev pub Begins : List (List ℕ) → Type 0
Begins lines =
    (t : Trace) × FitTrace t × (more : List (List ℕ)) × (map line_of (trace_lines t) ≡ lines ++ more)

-- the line behind so many is the first bad one: the bytes stand for no trace; some text begins with the lines before
-- it, which have their LF; and it lacks its LF, or isn't there, or no text begins with the lines up to it
pub record IsFirstBad (bytes : List ℕ) (before : ℕ) : Type 0 where
  pub no_trace : (t : Trace) → StandsFor bytes t → ⊥
  pub there : before ≤ length (ended_lines bytes)
  pub good : Begins (take before (ended_lines bytes))
  pub bad : suc before ≤ length (ended_lines bytes) → Begins (take (suc before) (ended_lines bytes)) → ⊥

-- its number, counted from 1
abbrev pub IsBadLine : List ℕ → ℕ → Type 0
IsBadLine bytes line = (before : ℕ) × (line ≡ before + 1) × IsFirstBad bytes before

-- ---- a scenario, its trace, and what follows

-- parts with their LFs: all have one but the last, which isn't there where it is empty
abbrev pub with_ends : List (List ℕ) → List (List ℕ)
with_ends [] = []
with_ends ([] ∷ []) = []
with_ends (part ∷ []) = part ∷ []
with_ends (part ∷ parts) = ended part ∷ with_ends parts

-- the lines of a text, each with its LF where it has one
abbrev pub pieces : List ℕ → List (List ℕ)
pieces bytes = with_ends (slice_split (λ b. b == 10) bytes)

-- a piece that is this line, with its LF or without
abbrev pub is_line : List ℕ → List ℕ → Bool
is_line line piece = bytes_eq piece line || bytes_eq piece (ended line)

-- the pieces before the first that is this line, and from it on
abbrev pub before_line : List ℕ → List (List ℕ) → List (List ℕ)
before_line line ps = take_while (λ p. not (is_line line p)) ps

abbrev pub from_line : List ℕ → List (List ℕ) → List (List ℕ)
from_line line ps = drop (length (before_line line ps)) ps

-- the bytes of some pieces
abbrev pub joined : List (List ℕ) → List ℕ
joined ps = flat_map (λ p. p) ps

-- the scenario of an input is the lines before the first that is `taptrace 1`, or all
abbrev pub scenario_part : List ℕ → List ℕ
scenario_part bytes = joined (before_line (codes "taptrace 1") (pieces bytes))

-- the trace's lines, from that line to the first that is `end`, or all from there on
abbrev pub trace_pieces : List ℕ → List (List ℕ)
trace_pieces bytes = from_line (codes "taptrace 1") (pieces bytes)

abbrev pub trace_part : List ℕ → List ℕ
trace_part bytes =
    joined (take (suc (length (before_line (codes "end") (trace_pieces bytes)))) (trace_pieces bytes))

-- what follows `end`
abbrev pub behind_part : List ℕ → List ℕ
behind_part bytes =
    joined (drop (suc (length (before_line (codes "end") (trace_pieces bytes)))) (trace_pieces bytes))
