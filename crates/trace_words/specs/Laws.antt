-- This project's own: what the lines of a trace have to do with what they say.
use Rattle.std.specs.Prelude.{◌≡◌, ℕ, not, ◌==◌, true, IsTrue, List}
use Rattle.std.specs.List.{list_all}
use Rattle.text_fields.specs.Lines.{is_text_line}
use Rattle.trace_words.specs.declared.said.Said.{Said}
use Rattle.trace_words.specs.Said.{Says}

-- a line says one thing at most
abbrev pub LinesSayOneThing : Type 0
LinesSayOneThing = (line : List ℕ) (a b : Said) → Says line a → Says line b → a ≡ b

-- a line that says something has the bytes of a line
abbrev pub LinesAreText : Type 0
LinesAreText = (line : List ℕ) (s : Said) → Says line s → IsTrue (is_text_line line)

-- and no LF
abbrev pub LinesHaveNoEnd : Type 0
LinesHaveNoEnd = (line : List ℕ) (s : Said) → Says line s → list_all (λ b. not (b == 10)) line ≡ true
