-- This project's own: what a line of a trace says, its fields, and which lines a text can have.
use Rattle.std.specs.Prelude.{◌≡◌, ℕ, List, [], ◌∷◌, codes}
use Rattle.std.specs.Fmt.{decimal}
use Rattle.tap_trace.specs.declared.answer.Answer.{Answer}
use Rattle.tap_trace.specs.declared.answer.Answer.TheVariants as answer
use Rattle.text_fields.specs.Lines.{line_of}
use Rattle.trace_causes.specs.Fits.{Is16, Is32, Is64, IsRing}
use Rattle.trace_words.specs.Answers.{answer_line, chain_line}
use Rattle.trace_words.specs.Fits.{FitAnswerLine, FitChain, FitOpLine, FitPlace, FitStep}
use Rattle.trace_words.specs.Operations.{op_line}
use Rattle.trace_words.specs.Places.{place_line, used_line}
use Rattle.trace_words.specs.Steps.{step_line}
use Rattle.trace_words.specs.declared.said.Said.{Said}
use Rattle.trace_words.specs.declared.said.Said.TheVariants as said

-- the fields of a line
abbrev pub said_fields : Said → List (List ℕ)
said_fields said.Begins = codes "taptrace" ∷ codes "1" ∷ []
said_fields (said.Phase number actors) = codes "phase" ∷ decimal number ∷ decimal actors ∷ []
said_fields (said.Op o) = op_line o
said_fields (said.Answer a) = answer_line a
said_fields (said.Resize claimed freed cut) = codes "resize" ∷ decimal claimed ∷ decimal freed ∷ decimal cut ∷ []
said_fields (said.Chain c) = chain_line c
said_fields (said.File file claimed freed) = codes "file" ∷ decimal file ∷ decimal claimed ∷ decimal freed ∷ []
said_fields (said.Place l) = place_line l
said_fields (said.Guest guest) = codes "guest" ∷ decimal guest ∷ []
said_fields (said.Step s) = step_line s
said_fields (said.Ring vhost ring) = codes "ring" ∷ decimal vhost ∷ decimal ring ∷ []
said_fields (said.Base base) = codes "base" ∷ decimal base ∷ []
said_fields (said.Used position head len) = used_line (position, head, len)
said_fields said.End = codes "end" ∷ []

-- an answer without the lines behind it: a turn has no chains, and a resized ring is a version
abbrev pub IsBare : Answer → Type 0
IsBare (answer.Resized version claimed freed cut) = ⊥
IsBare (answer.Turn packets bytes end chains) = chains ≡ []
IsBare a = Unit {0}

-- the numbers of a line are those of their types
abbrev pub FitSaid : Said → Type 0
FitSaid said.Begins = Unit {0}
FitSaid (said.Phase number actors) = Is64 number × Is16 actors
FitSaid (said.Op o) = FitOpLine o
FitSaid (said.Answer a) = FitAnswerLine a × IsBare a.answer
FitSaid (said.Resize claimed freed cut) = Is64 claimed × Is64 freed × Is64 cut
FitSaid (said.Chain c) = FitChain c
FitSaid (said.File file claimed freed) = Is16 file × Is64 claimed × Is64 freed
FitSaid (said.Place l) = FitPlace l
FitSaid (said.Guest guest) = Is16 guest
FitSaid (said.Step s) = FitStep s
FitSaid (said.Ring vhost ring) = IsRing vhost ring
FitSaid (said.Base base) = Is16 base
FitSaid (said.Used position head len) = Is16 position × Is16 head × Is32 len
FitSaid said.End = Unit {0}

-- the line, without its LF, says this
abbrev pub Says : List ℕ → Said → Type 0
Says line s = FitSaid s × (line ≡ line_of (said_fields s))
