-- What a builder has heard, and that a run of lines is heard whole.
use Rattle.std.proofs.Common.{◌≡◌, true, List, [], ◌∷◌, ◌++◌, Option, Some, None, refl, sym, ◌∙◌, ap, subst, append_assoc}
use Rattle.std.specs.List.{AllByRecursion}
use Rattle.std.specs.Option.{option_map}
use Rattle.std.proofs.lemmas.List.{append-nil}
use Rattle.tap_trace.specs.declared.trace.Trace.{Trace}
use Rattle.trace_words.specs.Said.{FitSaid}
use Rattle.trace_words.specs.declared.said.Said.{Said}
use Rattle.trace_words.specs.declared.said.Said.TheVariants as said
use Rattle.trace_text.specs.Building.{are_listed, behind_stage, stage_after, step, with_line}
use Rattle.trace_text.specs.declared.builder.Builder.{Builder}
use Rattle.trace_text.specs.declared.builder.Stage.{Stage}
use Rattle.trace_text.specs.declared.builder.Stage.TheVariants.{Start, Inside, Ended}
use Rattle.trace_text.proofs.Kept.{FitSoFar}
use Rattle.trace_text.proofs.Lists.{chosen_by, made_by, some_is}
use Rattle.trace_text.proofs.Rings.{line_grows}
use Rattle.trace_text.proofs.Sentences.{body}

-- ---- runs

abbrev pub on : {A B : Type 0} → Option A → (A → Option B) → Option B
on None f = None
on (Some x) f = f x

-- what lines make of a builder, one after another
abbrev pub run : Builder → List Said → Option Builder
run b [] = Some b
run b (s ∷ ss) = on (step b s) (λ c. run c ss)

pub on_some : {A B : Type 0} (o : Option A) (x : A) (f : A → Option B) → o ≡ Some x → on o f ≡ f x
on_some o x f e = ap (λ p. on p f) e

-- what comes of it came of something
pub on_by : {A B : Type 0} (o : Option A) (f : A → Option B) (y : B) (P : Type 0) → on o f ≡ Some y → ((x : A) → o ≡ Some x → f x ≡ Some y → P) → P
on_by None f y P e k = absurd cc
on_by (Some x) f y P e k = k x refl e

on_on : {A B C : Type 0} (o : Option A) (f : A → Option B) (g : B → Option C) → on (on o f) g ≡ on o (λ x. on (f x) g)
on_on None f g = refl
on_on (Some x) f g = refl

pub run-append : (b : Builder) (xs ys : List Said) → run b (xs ++ ys) ≡ on (run b xs) (λ c. run c ys)
run-append b [] ys = refl
run-append b (s ∷ xs) ys = after (step b s) (λ c. run-append c xs ys) ∙ sym (on_on (step b s) (λ c. run c xs) (λ d. run d ys))
  where
    after : (o : Option Builder) → ((c : Builder) → run c (xs ++ ys) ≡ on (run c xs) (λ d. run d ys)) → on o (λ c. run c (xs ++ ys)) ≡ on o (λ c. on (run c xs) (λ d. run d ys))
    after None each = refl
    after (Some c) each = each c

-- ---- what was heard

abbrev pub empty : Trace
empty = record { phases = []; files = []; guests = []; rings = [] }

abbrev pub inside : Trace → Builder
inside t = record { stage = Inside; trace = t }

-- the sentences of the lines so far
abbrev pub heard : Stage → Trace → List Said
heard Start t = []
heard Inside t = said.Begins ∷ body t
heard Ended t = said.Begins ∷ (body t ++ said.End ∷ [])

-- what is built fits
abbrev pub Sound : Stage → Trace → Type 0
Sound Start t = t ≡ empty
Sound Inside t = FitSoFar t
Sound Ended t = FitSoFar t × (are_listed t ≡ true)

fit_empty : FitSoFar empty
fit_empty = record { phases = tt; files = tt; files_rise = refl; guests = tt; guests_rise = refl; rings = tt; rings_rise = refl }

-- the builder hears a line
abbrev Hears : Said → Stage → Trace → Builder → Type 0
Hears s stage t c = Sound c.stage c.trace × (heard c.stage c.trace ≡ heard stage t ++ s ∷ [])

hears_begin : (t : Trace) (c : Builder) → t ≡ empty → Some (inside t) ≡ Some c → Hears said.Begins Start t c
hears_begin t c is e =
    let P : Trace → Type 0 = λ u. Hears said.Begins Start t (inside u) in
    let Q : Builder → Type 0 = λ b. Hears said.Begins Start t b in
    let new : P t = subst P (sym is) (fit_empty, refl) in
    subst Q (some_is (inside t) c e) new

hears_line : (s : Said) (t : Trace) (c : Builder) → FitSaid s → stage_after Inside s ≡ Some Inside → FitSoFar t → option_map inside (with_line s t) ≡ Some c → Hears s Inside t c
hears_line s t c fit stage so_far e =
    made_by inside (with_line s t) c (Hears s Inside t) e
    (λ u made. let new = line_grows s t u fit stage so_far made in
    (new.0, ap (λ ss. said.Begins ∷ ss) new.1))

hears_end : (t : Trace) (c : Builder) → FitSoFar t → behind_stage (Some Ended) (with_line said.End t) ≡ Some c → Hears said.End Inside t c
hears_end t c so_far e =
    made_by (λ u. record { stage = Ended; trace = u }) (with_line said.End t) c (Hears said.End Inside t) e
    (λ u made. chosen_by (are_listed t) (Some t) u (Hears said.End Inside t (record { stage = Ended; trace = u })) made
    (λ listed is. let P : Trace → Type 0 = λ v. Hears said.End Inside t (record { stage = Ended; trace = v }) in
    subst P (some_is t u is) ((so_far, listed), refl)))

hears : (stage : Stage) (t : Trace) (s : Said) (c : Builder) → FitSaid s → Sound stage t → behind_stage (stage_after stage s) (with_line s t) ≡ Some c → Hears s stage t c
hears Start t said.Begins c fit sound e = hears_begin t c sound e
hears Start t _ c fit sound e = absurd cc
hears Inside t said.Begins c fit sound e = absurd cc
hears Inside t said.End c fit sound e = hears_end t c sound e
hears Inside t s c fit sound e = hears_line s t c fit refl sound e
hears Ended t s c fit sound e = absurd cc

-- all lines of a run are heard
pub run_hears : (ss : List Said) (b c : Builder) → AllByRecursion FitSaid ss → Sound b.stage b.trace → run b ss ≡ Some c → Sound c.stage c.trace × (heard c.stage c.trace ≡ heard b.stage b.trace ++ ss)
run_hears [] b c fit sound e =
    let P : Builder → Type 0 = λ d. Sound d.stage d.trace × (heard d.stage d.trace ≡ heard b.stage b.trace ++ []) in
    subst P (some_is b c e) (sound, sym (append-nil (heard b.stage b.trace)))
run_hears (s ∷ ss) b c fit sound e =
    on_by (step b s) (λ d. run d ss) c (Sound c.stage c.trace × (heard c.stage c.trace ≡ heard b.stage b.trace ++ (s ∷ ss))) e
    (λ d made rest. let first = hears b.stage b.trace s d fit.0 sound made in
    let later = run_hears ss d c fit.1 first.0 rest in
    (later.0, later.1 ∙ ap (λ h. h ++ ss) first.1 ∙ append_assoc (heard b.stage b.trace) (s ∷ []) ss))
