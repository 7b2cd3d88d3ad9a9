-- This project's own: a trace with one thing changed. Lines of one kind are counted from 0 in their part.
use Rattle.std.specs.Prelude.{ℕ, zero, suc, List, [], ◌∷◌}
use Rattle.tap_ledger.specs.declared.fate.Fate.{Fate}
use Rattle.tap_trace.specs.declared.answer.Answer.{Answer}
use Rattle.tap_trace.specs.declared.kind.Kind.{Kind}
use Rattle.tap_trace.specs.declared.trace.AnswerLine.{AnswerLine}
use Rattle.tap_trace.specs.declared.trace.FilePart.{FilePart}
use Rattle.tap_trace.specs.declared.trace.GuestPart.{GuestPart}
use Rattle.tap_trace.specs.declared.trace.OpLine.{OpLine}
use Rattle.tap_trace.specs.declared.trace.PhasePart.{PhasePart}
use Rattle.tap_trace.specs.declared.trace.PlaceLine.{PlaceLine}
use Rattle.tap_trace.specs.declared.trace.StepLine.{StepLine}
use Rattle.tap_trace.specs.declared.trace.Trace.{Trace}

abbrev pub change_at : {A : Type 0} → ℕ → (A → A) → List A → List A
change_at n change [] = []
change_at zero change (x ∷ xs) = change x ∷ xs
change_at (suc n) change (x ∷ xs) = x ∷ change_at n change xs

-- a list with a member more, at this place
abbrev pub with_more : {A : Type 0} → ℕ → A → List A → List A
with_more n new [] = new ∷ []
with_more zero new (x ∷ xs) = new ∷ x ∷ xs
with_more (suc n) new (x ∷ xs) = x ∷ with_more n new xs

-- a list without one of its members
abbrev pub without : {A : Type 0} → ℕ → List A → List A
without n [] = []
without zero (x ∷ xs) = xs
without (suc n) (x ∷ xs) = x ∷ without n xs

-- the operations and the answers of a phase
abbrev pub with_ops : ℕ → (List OpLine → List OpLine) → Trace → Trace
with_ops phase change t =
    record t { phases = change_at phase (λ (p : PhasePart). record p { ops = change p.ops }) t.phases }

abbrev pub with_answers : ℕ → (List AnswerLine → List AnswerLine) → Trace → Trace
with_answers phase change t =
    record t { phases = change_at phase (λ (p : PhasePart). record p { answers = change p.answers }) t.phases }

-- an answer of the first phase, and what it says or has seen
abbrev pub with_line : ℕ → (AnswerLine → AnswerLine) → Trace → Trace
with_line n change t = with_answers 0 (change_at n change) t

abbrev pub with_answer : ℕ → Answer → Trace → Trace
with_answer n answer t = with_line n (λ (a : AnswerLine). record a { answer = answer }) t

abbrev pub with_seen : ℕ → ℕ → Trace → Trace
with_seen n seen t = with_line n (λ (a : AnswerLine). record a { seen = seen }) t

-- the first file, and its entries
abbrev pub with_file : (FilePart → FilePart) → Trace → Trace
with_file change t = record t { files = change_at 0 change t.files }

abbrev pub with_entries : (List PlaceLine → List PlaceLine) → Trace → Trace
with_entries change t = with_file (λ (f : FilePart). record f { lines = change f.lines }) t

abbrev pub with_fate : ℕ → Fate → Trace → Trace
with_fate n fate t = with_entries (change_at n (λ (e : PlaceLine). record e { fate = fate })) t

abbrev pub one_place_up : PlaceLine → PlaceLine
one_place_up e = record e { place = suc e.place }

-- the steps of a guest
abbrev pub with_steps : ℕ → (List StepLine → List StepLine) → Trace → Trace
with_steps guest change t = record t {
  guests = change_at guest (λ (g : GuestPart). record g { steps = change g.steps }) t.guests;
}

abbrev pub with_kind : ℕ → ℕ → Kind → Trace → Trace
with_kind guest n kind t = with_steps guest (change_at n (λ (s : StepLine). record s { kind = kind })) t
