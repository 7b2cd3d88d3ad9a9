-- What the lines of a trace say.
use Rattle.std.proofs.Common.{◌≡◌, ℕ, suc, List, [], ◌∷◌, ◌++◌, map, codes, refl, sym, ◌∙◌, ap, append_assoc}
use Rattle.std.specs.List.{flat_map}
use Rattle.std.specs.Fmt.{decimal}
use Rattle.std.proofs.lemmas.List.{map-append}
use Rattle.tap_trace.specs.declared.answer.Answer.{Answer}
use Rattle.tap_trace.specs.declared.answer.Answer.TheVariants as answer
use Rattle.tap_trace.specs.declared.trace.AnswerLine.{AnswerLine}
use Rattle.tap_trace.specs.declared.trace.FilePart.{FilePart}
use Rattle.tap_trace.specs.declared.trace.GuestPart.{GuestPart}
use Rattle.tap_trace.specs.declared.trace.PhasePart.{PhasePart}
use Rattle.tap_trace.specs.declared.trace.PositionList.{PositionList}
use Rattle.tap_trace.specs.declared.trace.RingPart.{RingPart}
use Rattle.tap_trace.specs.declared.trace.Trace.{Trace}
use Rattle.trace_words.specs.Answers.{answer_lines, chain_line}
use Rattle.trace_words.specs.Operations.{op_line}
use Rattle.trace_words.specs.Places.{place_line, used_line}
use Rattle.trace_words.specs.Said.{said_fields}
use Rattle.trace_words.specs.Steps.{step_line}
use Rattle.trace_words.specs.declared.said.Said.{Said}
use Rattle.trace_words.specs.declared.said.Said.TheVariants as said
use Rattle.trace_text.specs.Parts.{file_part, guest_part, list_part, phase_part, phase_parts, ring_part}
use Rattle.trace_text.specs.TraceText.{trace_lines}

-- ---- the lines of each part

-- an answer without the lines behind it
abbrev pub bare : Answer → Answer
bare (answer.Resized version claimed freed cut) = answer.Version version
bare (answer.Turn packets bytes end chains) = answer.Turn packets bytes end []
bare a = a

-- the lines behind an answer
abbrev pub behind_said : Answer → List Said
behind_said (answer.Resized version claimed freed cut) = said.Resize claimed freed cut ∷ []
behind_said (answer.Turn packets bytes end chains) = map said.Chain chains
behind_said a = []

abbrev pub answer_said : AnswerLine → List Said
answer_said a = said.Answer (record a { answer = bare a.answer }) ∷ behind_said a.answer

abbrev pub phase_said : ℕ → PhasePart → List Said
phase_said number p = said.Phase number p.actors ∷ (map said.Op p.ops ++ flat_map answer_said p.answers)

abbrev pub phases_said : ℕ → List PhasePart → List Said
phases_said number [] = []
phases_said number (p ∷ ps) = phase_said number p ++ phases_said (suc number) ps

abbrev pub file_said : FilePart → List Said
file_said f = said.File f.file f.claimed f.freed ∷ map said.Place f.lines

abbrev pub guest_said : GuestPart → List Said
guest_said g = said.Guest g.guest ∷ map said.Step g.steps

abbrev pub used_said : ℕ × ℕ × ℕ → Said
used_said u = said.Used u.0 u.1 u.2

abbrev pub list_said : PositionList → List Said
list_said l = said.Base l.base ∷ map used_said l.used

abbrev pub ring_said : RingPart → List Said
ring_said r = said.Ring r.vhost r.ring ∷ flat_map list_said r.lists

-- the lines behind the phases, behind the files, and behind the guests
abbrev pub rings_on : Trace → List Said
rings_on t = flat_map ring_said t.rings

abbrev pub guests_on : Trace → List Said
guests_on t = flat_map guest_said t.guests ++ rings_on t

abbrev pub files_on : Trace → List Said
files_on t = flat_map file_said t.files ++ guests_on t

-- the lines between the first and the last
abbrev pub body : Trace → List Said
body t = phases_said 0 t.phases ++ files_on t

abbrev pub sentences : Trace → List Said
sentences t = said.Begins ∷ (body t ++ said.End ∷ [])

-- ---- their fields are those of the lines

mapped : {A : Type 0} (line : A → Said) (fields : A → List (List ℕ)) → ((x : A) → said_fields (line x) ≡ fields x) → (xs : List A) → map said_fields (map line xs) ≡ map fields xs
mapped line fields each [] = refl
mapped line fields each (x ∷ xs) = ap (λ f. f ∷ map said_fields (map line xs)) (each x) ∙ ap (λ fs. fields x ∷ fs) (mapped line fields each xs)

parts : {A : Type 0} (lines : A → List Said) (fields : A → List (List (List ℕ))) → ((x : A) → map said_fields (lines x) ≡ fields x) → (xs : List A) → map said_fields (flat_map lines xs) ≡ flat_map fields xs
parts lines fields each [] = refl
parts lines fields each (x ∷ xs) = map-append said_fields (lines x) (flat_map lines xs) ∙ ap (λ f. f ++ map said_fields (flat_map lines xs)) (each x) ∙ ap (λ fs. fields x ++ fs) (parts lines fields each xs)

answer_is : (actor command seen : ℕ) (a : Answer) → let line : AnswerLine = record { actor = actor; command = command; seen = seen; answer = a } in map said_fields (answer_said line) ≡ answer_lines line
answer_is actor command seen (answer.Resized version claimed freed cut) = refl
answer_is actor command seen (answer.Turn packets bytes end chains) =
    ap (λ fs. said_fields (said.Answer (record { actor = actor; command = command; seen = seen; answer = answer.Turn packets bytes end [] })) ∷ fs) (mapped said.Chain chain_line (λ c. refl) chains)
answer_is actor command seen _ = refl

phase_is : (n : ℕ) (p : PhasePart) → map said_fields (phase_said n p) ≡ phase_part n p
phase_is n p =
    ap (λ fs. (codes "phase" ∷ decimal n ∷ decimal p.actors ∷ []) ∷ fs)
    (map-append said_fields (map said.Op p.ops) (flat_map answer_said p.answers)
    ∙ ap (λ fs. fs ++ map said_fields (flat_map answer_said p.answers)) (mapped said.Op op_line (λ o. refl) p.ops)
    ∙ ap (λ fs. map op_line p.ops ++ fs) (parts answer_said answer_lines (λ a. answer_is a.actor a.command a.seen a.answer) p.answers))

phases_are : (n : ℕ) (ps : List PhasePart) → map said_fields (phases_said n ps) ≡ phase_parts n ps
phases_are n [] = refl
phases_are n (p ∷ ps) = map-append said_fields (phase_said n p) (phases_said (suc n) ps) ∙ ap (λ f. f ++ map said_fields (phases_said (suc n) ps)) (phase_is n p) ∙ ap (λ fs. phase_part n p ++ fs) (phases_are (suc n) ps)

file_is : (f : FilePart) → map said_fields (file_said f) ≡ file_part f
file_is f = ap (λ fs. said_fields (said.File f.file f.claimed f.freed) ∷ fs) (mapped said.Place place_line (λ l. refl) f.lines)

guest_is : (g : GuestPart) → map said_fields (guest_said g) ≡ guest_part g
guest_is g = ap (λ fs. said_fields (said.Guest g.guest) ∷ fs) (mapped said.Step step_line (λ s. refl) g.steps)

list_is : (l : PositionList) → map said_fields (list_said l) ≡ list_part l
list_is l = ap (λ fs. said_fields (said.Base l.base) ∷ fs) (mapped used_said used_line (λ u. refl) l.used)

ring_is : (r : RingPart) → map said_fields (ring_said r) ≡ ring_part r
ring_is r = ap (λ fs. said_fields (said.Ring r.vhost r.ring) ∷ fs) (parts list_said list_part list_is r.lists)

body_is : (t : Trace) → map said_fields (body t) ≡ phase_parts 0 t.phases ++ (flat_map file_part t.files ++ (flat_map guest_part t.guests ++ flat_map ring_part t.rings))
body_is t =
    map-append said_fields (phases_said 0 t.phases) (files_on t)
    ∙ ap (λ fs. fs ++ map said_fields (files_on t)) (phases_are 0 t.phases)
    ∙ ap (λ fs. phase_parts 0 t.phases ++ fs)
    (map-append said_fields (flat_map file_said t.files) (guests_on t)
    ∙ ap (λ fs. fs ++ map said_fields (guests_on t)) (parts file_said file_part file_is t.files)
    ∙ ap (λ fs. flat_map file_part t.files ++ fs)
    (map-append said_fields (flat_map guest_said t.guests) (rings_on t)
    ∙ ap (λ fs. fs ++ map said_fields (rings_on t)) (parts guest_said guest_part guest_is t.guests)
    ∙ ap (λ fs. flat_map guest_part t.guests ++ fs) (parts ring_said ring_part ring_is t.rings)))

five : {A : Type 0} (a b c d e : List A) → (a ++ (b ++ (c ++ d))) ++ e ≡ (((a ++ b) ++ c) ++ d) ++ e
five a b c d e = ap (λ t. t ++ e) (sym (append_assoc a b (c ++ d)) ∙ sym (append_assoc (a ++ b) c d))

-- the lines of a text are those of its sentences
pub lines_said : (t : Trace) → trace_lines t ≡ map said_fields (sentences t)
lines_said t =
    let between : map said_fields (body t ++ said.End ∷ []) ≡ (((phase_parts 0 t.phases ++ flat_map file_part t.files) ++ flat_map guest_part t.guests) ++ flat_map ring_part t.rings) ++ (codes "end" ∷ []) ∷ [] =
    map-append said_fields (body t) (said.End ∷ []) ∙ ap (λ fs. fs ++ (codes "end" ∷ []) ∷ []) (body_is t)
    ∙ five (phase_parts 0 t.phases) (flat_map file_part t.files) (flat_map guest_part t.guests) (flat_map ring_part t.rings) ((codes "end" ∷ []) ∷ []) in
    ap (λ fs. (codes "taptrace" ∷ codes "1" ∷ []) ∷ fs) (sym between)
