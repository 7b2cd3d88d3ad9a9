-- Each line of a fitting trace fits, but that there may be more phases than a number can have.
use Rattle.std.proofs.Common.{ℕ, suc, List, [], ◌∷◌, ◌++◌, map, refl}
use Rattle.std.specs.List.{AllByRecursion, flat_map}
use Rattle.tap_trace.specs.declared.answer.Answer.{Answer}
use Rattle.tap_trace.specs.declared.answer.Answer.TheVariants as answer
use Rattle.tap_trace.specs.declared.trace.AnswerLine.{AnswerLine}
use Rattle.tap_trace.specs.declared.trace.FilePart.{FilePart}
use Rattle.tap_trace.specs.declared.trace.GuestPart.{GuestPart}
use Rattle.tap_trace.specs.declared.trace.PhasePart.{PhasePart}
use Rattle.tap_trace.specs.declared.trace.PositionList.{PositionList}
use Rattle.tap_trace.specs.declared.trace.RingPart.{RingPart}
use Rattle.tap_trace.specs.declared.trace.Trace.{Trace}
use Rattle.trace_causes.specs.Fits.{Is16}
use Rattle.trace_words.specs.Fits.{FitAnswerLine, FitChain, FitOpLine, FitPlace, FitStep, FitUsed}
use Rattle.trace_words.specs.Said.{FitSaid}
use Rattle.trace_words.specs.declared.said.Said.{Said}
use Rattle.trace_words.specs.declared.said.Said.TheVariants as said
use Rattle.trace_text.specs.Ordered.{FitFile, FitGuest, FitList, FitPhase, FitRing, FitTrace}
use Rattle.trace_text.proofs.Sentences.{answer_said, body, file_said, files_on, guest_said, guests_on, list_said, phase_said, phases_said, ring_said, rings_on, sentences, used_said}

-- a line that fits, where a phase may have any number
abbrev pub FitBut : Said → Type 0
FitBut (said.Phase number actors) = Is16 actors
FitBut s = FitSaid s

abbrev AllBut : List Said → Type 0
AllBut ss = AllByRecursion FitBut ss

pub all_append : {A : Type 0} (P : A → Type 0) (xs ys : List A) → AllByRecursion P xs → AllByRecursion P ys → AllByRecursion P (xs ++ ys)
all_append P [] ys all more = more
all_append P (x ∷ xs) ys all more = (all.0, all_append P xs ys all.1 more)

all_map : {A : Type 0} (P : A → Type 0) (line : A → Said) → ((x : A) → P x → FitBut (line x)) → (xs : List A) → AllByRecursion P xs → AllBut (map line xs)
all_map P line each [] all = tt
all_map P line each (x ∷ xs) all = (each x all.0, all_map P line each xs all.1)

all_parts : {A : Type 0} (P : A → Type 0) (lines : A → List Said) → ((x : A) → P x → AllBut (lines x)) → (xs : List A) → AllByRecursion P xs → AllBut (flat_map lines xs)
all_parts P lines each [] all = tt
all_parts P lines each (x ∷ xs) all = all_append FitBut (lines x) (flat_map lines xs) (each x all.0) (all_parts P lines each xs all.1)

answer_fits : (actor command seen : ℕ) (a : Answer) → let line : AnswerLine = record { actor = actor; command = command; seen = seen; answer = a } in FitAnswerLine line → AllBut (answer_said line)
answer_fits actor command seen (answer.Resized version claimed freed cut) fit =
    (((fit.0, fit.1, fit.2, fit.3.0), tt), ((fit.3.1, fit.3.2, fit.3.3), tt))
answer_fits actor command seen (answer.Turn packets bytes end chains) fit =
    (((fit.0, fit.1, fit.2, (fit.3.0, fit.3.1, fit.3.2, tt)), refl), all_map FitChain said.Chain (λ c f. f) chains fit.3.3)
answer_fits actor command seen _ fit = ((fit, tt), tt)

phase_fits : (n : ℕ) (p : PhasePart) → FitPhase p → AllBut (phase_said n p)
phase_fits n p fit = (
  fit.actors,
  all_append FitBut (map said.Op p.ops) (flat_map answer_said p.answers) (all_map FitOpLine said.Op (λ o f. f) p.ops fit.ops)
      (all_parts FitAnswerLine answer_said (λ a. answer_fits a.actor a.command a.seen a.answer) p.answers fit.answers),
)

phases_fit : (n : ℕ) (ps : List PhasePart) → AllByRecursion FitPhase ps → AllBut (phases_said n ps)
phases_fit n [] fit = tt
phases_fit n (p ∷ ps) fit = all_append FitBut (phase_said n p) (phases_said (suc n) ps) (phase_fits n p fit.0) (phases_fit (suc n) ps fit.1)

file_fits : (f : FilePart) → FitFile f → AllBut (file_said f)
file_fits f fit = ((fit.file, fit.claimed, fit.freed), all_map FitPlace said.Place (λ l h. h) f.lines fit.lines)

guest_fits : (g : GuestPart) → FitGuest g → AllBut (guest_said g)
guest_fits g fit = (fit.0, all_map FitStep said.Step (λ s h. h) g.steps fit.1)

list_fits : (l : PositionList) → FitList l → AllBut (list_said l)
list_fits l fit = (fit.0, all_map FitUsed used_said (λ u h. h) l.used fit.1)

ring_fits : (r : RingPart) → FitRing r → AllBut (ring_said r)
ring_fits r fit = (fit.0, all_parts FitList list_said list_fits r.lists fit.2)

pub sentences_fit : (t : Trace) → FitTrace t → AllByRecursion FitBut (sentences t)
sentences_fit t fit = (
  tt,
  all_append FitBut (body t) (said.End ∷ [])
      (all_append FitBut (phases_said 0 t.phases) (files_on t) (phases_fit 0 t.phases fit.phases)
      (all_append FitBut (flat_map file_said t.files) (guests_on t) (all_parts FitFile file_said file_fits t.files fit.files)
      (all_append FitBut (flat_map guest_said t.guests) (rings_on t) (all_parts FitGuest guest_said guest_fits t.guests fit.guests)
      (all_parts FitRing ring_said ring_fits t.rings fit.rings))))
      (tt, tt),
)
