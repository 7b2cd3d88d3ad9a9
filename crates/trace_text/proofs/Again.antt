-- What the lines of a fitting trace say builds that trace.
use Rattle.std.proofs.Common.{◌≡◌, ℕ, suc, Bool, true, false, not, ◌&&◌, ◌==◌, if◌then◌else◌, List, [], ◌∷◌, ◌++◌, length, map, Option, Some, None, refl, sym, ◌∙◌, ap, subst, append_assoc, arith, length-append}
use Rattle.std.specs.List.{AllByRecursion, flat_map}
use Rattle.std.specs.Option.{option_map}
use Rattle.std.proofs.lemmas.Bool.{and_from, eq-eqb}
use Rattle.std.proofs.lemmas.List.{append-nil}
use Rattle.std.proofs.lemmas.List.Concat.{flat_map_single}
use Rattle.tap_trace.specs.declared.answer.Answer.{Answer}
use Rattle.tap_trace.specs.declared.answer.Answer.TheVariants as answer
use Rattle.tap_trace.specs.declared.trace.AnswerLine.{AnswerLine}
use Rattle.tap_trace.specs.declared.trace.FilePart.{FilePart}
use Rattle.tap_trace.specs.declared.trace.GuestPart.{GuestPart}
use Rattle.tap_trace.specs.declared.trace.OpLine.{OpLine}
use Rattle.tap_trace.specs.declared.trace.PhasePart.{PhasePart}
use Rattle.tap_trace.specs.declared.trace.PlaceLine.{PlaceLine}
use Rattle.tap_trace.specs.declared.trace.PositionList.{PositionList}
use Rattle.tap_trace.specs.declared.trace.RingPart.{RingPart}
use Rattle.tap_trace.specs.declared.trace.StepLine.{StepLine}
use Rattle.tap_trace.specs.declared.trace.Trace.{Trace}
use Rattle.trace_words.specs.Fits.{FitAnswerLine, FitOpLine, FitPlace}
use Rattle.trace_words.specs.declared.said.Said.{Said}
use Rattle.trace_words.specs.declared.said.Said.TheVariants as said
use Rattle.trace_text.specs.Building.{and_item, behind_answer, behind_stage, in_file, in_guest, in_phase, in_ring, is_listed, last_item, may_follow, none_yet, passes, stage_after, start, with_answer, with_base, with_chain, with_last, with_line, with_op, with_place, with_resize, with_step, with_text, with_used}
use Rattle.trace_text.specs.Ordered.{BeginsAtZero, FitFile, FitGuest, FitPhase, FitRing, FitTrace, answer_before, file_before, guest_before, op_before, place_before, ring_before, rises}
use Rattle.trace_text.specs.declared.builder.Stage.TheVariants.{Inside, Ended}
use Rattle.trace_text.proofs.Heard.{empty, inside, on, on_some, run, run-append}
use Rattle.trace_text.proofs.Lists.{last_item-push, none_yet-push, rises_split, with_last-push}
use Rattle.trace_text.proofs.Sentences.{answer_said, bare, behind_said, body, file_said, files_on, guest_said, guests_on, list_said, phase_said, phases_said, ring_said, rings_on, sentences, used_said}

-- ---- runs between the first line and the last

abbrev Runs : Trace → List Said → Trace → Type 0
Runs t ss u = run (inside t) ss ≡ Some (inside u)

runs_then : (t u v : Trace) (xs ys : List Said) → Runs t xs u → Runs u ys v → Runs t (xs ++ ys) v
runs_then t u v xs ys a b = run-append (inside t) xs ys ∙ on_some (run (inside t) xs) (inside u) (λ c. run c ys) a ∙ b

runs_one : (s : Said) (t u : Trace) → stage_after Inside s ≡ Some Inside → with_line s t ≡ Some u → Runs t (s ∷ []) u
runs_one s t u stage made =
    ap (λ o. on (behind_stage o (with_line s t)) (λ c. run c [])) stage ∙ ap (λ o. on (behind_stage (Some Inside) o) (λ c. run c [])) made

-- each item can stand behind those before it
abbrev AllGood : {A : Type 0} → (List A → A → Type 0) → List A → List A → Type 0
AllGood Good xs [] = Unit {0}
AllGood Good xs (x ∷ rest) = Good xs x × AllGood Good (xs ++ x ∷ []) rest

-- parts, one after another
runs_each : {A : Type 0} (lines : A → List Said) (state : List A → Trace) (Good : List A → A → Type 0) → ((xs : List A) (x : A) → Good xs x → Runs (state xs) (lines x) (state (xs ++ x ∷ [])))
    → (xs rest : List A) → AllGood Good xs rest → Runs (state xs) (flat_map lines rest) (state (xs ++ rest))
runs_each lines state Good each xs [] good = ap (λ ys. Some (inside (state ys))) (sym (append-nil xs))
runs_each lines state Good each xs (x ∷ rest) good =
    let P : List _ → Type 0 = λ ys. Runs (state xs) (lines x ++ flat_map lines rest) (state ys) in
    subst P (append_assoc xs (x ∷ []) rest)
    (runs_then (state xs) (state (xs ++ x ∷ [])) (state ((xs ++ x ∷ []) ++ rest)) (lines x) (flat_map lines rest) (each xs x good.0) (runs_each lines state Good each (xs ++ x ∷ []) rest good.1))

-- lines, one after another
runs_map : {A : Type 0} (line : A → Said) (state : List A → Trace) (Good : List A → A → Type 0) → ((xs : List A) (x : A) → Good xs x → Runs (state xs) (line x ∷ []) (state (xs ++ x ∷ [])))
    → (xs rest : List A) → AllGood Good xs rest → Runs (state xs) (map line rest) (state (xs ++ rest))
runs_map line state Good each xs rest good =
    let P : List Said → Type 0 = λ ss. Runs (state xs) ss (state (xs ++ rest)) in
    subst P (flat_map_single line rest) (runs_each (λ x. line x ∷ []) state Good each xs rest good)

-- what rises is good in its order
abbrev Rising : {A : Type 0} → (A → Type 0) → (A → A → Bool) → List A → A → Type 0
Rising Fit before xs x = Fit x × (may_follow before xs x ≡ true)

good_rising : {A : Type 0} (Fit : A → Type 0) (before : A → A → Bool) (xs rest : List A) → AllByRecursion Fit rest → rises before (xs ++ rest) ≡ true → AllGood (Rising Fit before) xs rest
good_rising Fit before xs [] fit r = tt
good_rising Fit before xs (x ∷ rest) fit r =
    ((fit.0, rises_split before xs x rest r), good_rising Fit before (xs ++ x ∷ []) rest fit.1 (ap (rises before) (append_assoc xs (x ∷ []) rest) ∙ r))

-- where there is no order
abbrev Any : {A : Type 0} → List A → A → Type 0
Any xs x = Unit {0}

good_any : {A : Type 0} (xs rest : List A) → AllGood Any xs rest
good_any xs [] = tt
good_any xs (x ∷ rest) = (tt, good_any (xs ++ x ∷ []) rest)

-- ---- phases

abbrev at_phase : List PhasePart → PhasePart → Trace
at_phase ps p = record { phases = ps ++ p ∷ []; files = []; guests = []; rings = [] }

in_phase-push : (f : PhasePart → Option PhasePart) (ps : List PhasePart) (p q : PhasePart) → f p ≡ Some q → in_phase f (at_phase ps p) ≡ Some (at_phase ps q)
in_phase-push f ps p q e =
    let put : List PhasePart → Trace = λ phases. record { phases = phases; files = []; guests = []; rings = [] } in
    ap (option_map put) (with_last-push f ps p ∙ ap (option_map (λ y. ps ++ y ∷ [])) e)

abbrev phase_of : ℕ → List OpLine → List AnswerLine → PhasePart
phase_of actors ops answers = record { actors = actors; ops = ops; answers = answers }

runs_ops : (ps : List PhasePart) (actors : ℕ) (ops : List OpLine) → AllByRecursion FitOpLine ops → rises op_before ops ≡ true → Runs (at_phase ps (phase_of actors [] [])) (map said.Op ops) (at_phase ps (phase_of actors ops []))
runs_ops ps actors ops fit rise =
    runs_map said.Op (λ xs. at_phase ps (phase_of actors xs [])) (Rising FitOpLine op_before)
    (λ xs o good.
    let put : List OpLine → PhasePart = λ ys. phase_of actors ys [] in
    let made : with_op o (put xs) ≡ Some (put (xs ++ o ∷ [])) = ap (λ b. option_map put (and_item b xs o)) good.1 in
    runs_one (said.Op o) (at_phase ps (put xs)) (at_phase ps (put (xs ++ o ∷ []))) refl (in_phase-push (with_op o) ps (put xs) (put (xs ++ o ∷ [])) made))
    [] ops (good_rising FitOpLine op_before [] ops fit rise)

abbrev answered : ℕ → ℕ → ℕ → Answer → AnswerLine
answered actor command seen a = record { actor = actor; command = command; seen = seen; answer = a }

-- one line behind an answer
runs_behind_one : (ps : List PhasePart) (actors : ℕ) (ops : List OpLine) (xs : List AnswerLine) (actor command seen : ℕ) (f : Answer → Option Answer) (s : Said) (a b : Answer)
    → stage_after Inside s ≡ Some Inside → ((t : Trace) → with_line s t ≡ in_phase (behind_answer f) t) → f a ≡ Some b
    → Runs (at_phase ps (phase_of actors ops (xs ++ answered actor command seen a ∷ []))) (s ∷ []) (at_phase ps (phase_of actors ops (xs ++ answered actor command seen b ∷ [])))
runs_behind_one ps actors ops xs actor command seen f s a b stage line made =
    let put : List AnswerLine → PhasePart = λ ys. phase_of actors ops ys in
    let old : List AnswerLine = xs ++ answered actor command seen a ∷ [] in
    let new : List AnswerLine = xs ++ answered actor command seen b ∷ [] in
    let text : with_text f (answered actor command seen a) ≡ Some (answered actor command seen b) = ap (option_map (λ t. answered actor command seen t)) made in
    let last : with_last (with_text f) old ≡ Some new = with_last-push (with_text f) xs (answered actor command seen a) ∙ ap (option_map (λ y. xs ++ y ∷ [])) text in
    runs_one s (at_phase ps (put old)) (at_phase ps (put new)) stage
    (line (at_phase ps (put old)) ∙ in_phase-push (behind_answer f) ps (put old) (put new) (ap (option_map put) last))

runs_behind : (ps : List PhasePart) (actors : ℕ) (ops : List OpLine) (xs : List AnswerLine) (actor command seen : ℕ) (a : Answer)
    → Runs (at_phase ps (phase_of actors ops (xs ++ answered actor command seen (bare a) ∷ []))) (behind_said a) (at_phase ps (phase_of actors ops (xs ++ answered actor command seen a ∷ [])))
runs_behind ps actors ops xs actor command seen (answer.Resized version claimed freed cut) =
    runs_behind_one ps actors ops xs actor command seen (with_resize claimed freed cut) (said.Resize claimed freed cut) (answer.Version version) (answer.Resized version claimed freed cut) refl (λ t. refl) refl
runs_behind ps actors ops xs actor command seen (answer.Turn packets bytes end chains) =
    runs_map said.Chain (λ cs. at_phase ps (phase_of actors ops (xs ++ answered actor command seen (answer.Turn packets bytes end cs) ∷ []))) Any
    (λ cs c good. runs_behind_one ps actors ops xs actor command seen (with_chain c) (said.Chain c) (answer.Turn packets bytes end cs) (answer.Turn packets bytes end (cs ++ c ∷ [])) refl (λ t. refl) refl)
    [] chains (good_any [] chains)
runs_behind ps actors ops xs actor command seen _ = refl

runs_answers : (ps : List PhasePart) (actors : ℕ) (ops : List OpLine) (answers : List AnswerLine) → AllByRecursion FitAnswerLine answers → rises answer_before answers ≡ true
    → Runs (at_phase ps (phase_of actors ops [])) (flat_map answer_said answers) (at_phase ps (phase_of actors ops answers))
runs_answers ps actors ops answers fit rise =
    runs_each answer_said (λ xs. at_phase ps (phase_of actors ops xs)) (Rising FitAnswerLine answer_before)
    (λ xs a good.
    let put : List AnswerLine → PhasePart = λ ys. phase_of actors ops ys in
    let first : AnswerLine = answered a.actor a.command a.seen (bare a.answer) in
    let made : with_answer first (put xs) ≡ Some (put (xs ++ first ∷ [])) = ap (λ b. option_map put (and_item b xs first)) good.1 in
    runs_then (at_phase ps (put xs)) (at_phase ps (put (xs ++ first ∷ []))) (at_phase ps (put (xs ++ a ∷ []))) (said.Answer first ∷ []) (behind_said a.answer)
    (runs_one (said.Answer first) (at_phase ps (put xs)) (at_phase ps (put (xs ++ first ∷ []))) refl (in_phase-push (with_answer first) ps (put xs) (put (xs ++ first ∷ [])) made))
    (runs_behind ps actors ops xs a.actor a.command a.seen a.answer))
    [] answers (good_rising FitAnswerLine answer_before [] answers fit rise)

abbrev of_phases : List PhasePart → Trace
of_phases ps = record { phases = ps; files = []; guests = []; rings = [] }

runs_phase : (ps : List PhasePart) (p : PhasePart) → FitPhase p → Runs (of_phases ps) (phase_said (length ps) p) (of_phases (ps ++ p ∷ []))
runs_phase ps p fit =
    let first : PhasePart = phase_of p.actors [] [] in
    let made : with_line (said.Phase (length ps) p.actors) (of_phases ps) ≡ Some (at_phase ps first) = ap (λ b. option_map of_phases (and_item b ps first)) (eq-eqb (length ps) (length ps) refl) in
    runs_then (of_phases ps) (at_phase ps first) (at_phase ps p) (said.Phase (length ps) p.actors ∷ []) (map said.Op p.ops ++ flat_map answer_said p.answers)
    (runs_one (said.Phase (length ps) p.actors) (of_phases ps) (at_phase ps first) refl made)
    (runs_then (at_phase ps first) (at_phase ps (phase_of p.actors p.ops [])) (at_phase ps p) (map said.Op p.ops) (flat_map answer_said p.answers)
    (runs_ops ps p.actors p.ops fit.ops fit.ops_rise)
    (runs_answers ps p.actors p.ops p.answers fit.answers fit.answers_rise))

runs_phases : (ps rest : List PhasePart) (n : ℕ) → n ≡ length ps → AllByRecursion FitPhase rest → Runs (of_phases ps) (phases_said n rest) (of_phases (ps ++ rest))
runs_phases ps [] n is fit = ap (λ xs. Some (inside (of_phases xs))) (sym (append-nil ps))
runs_phases ps (p ∷ rest) n is fit =
    let next : suc n ≡ length (ps ++ p ∷ []) = omega (arith, length-append ps (p ∷ [])) in
    let P : List PhasePart → Type 0 = λ xs. Runs (of_phases ps) (phase_said n p ++ phases_said (suc n) rest) (of_phases xs) in
    let Q : ℕ → Type 0 = λ k. Runs (of_phases ps) (phase_said k p) (of_phases (ps ++ p ∷ [])) in
    subst P (append_assoc ps (p ∷ []) rest)
    (runs_then (of_phases ps) (of_phases (ps ++ p ∷ [])) (of_phases ((ps ++ p ∷ []) ++ rest)) (phase_said n p) (phases_said (suc n) rest)
    (subst Q (sym is) (runs_phase ps p fit.0)) (runs_phases (ps ++ p ∷ []) rest (suc n) next fit.1))

-- ---- files

abbrev of_files : List PhasePart → List FilePart → Trace
of_files ps fs = record { phases = ps; files = fs; guests = []; rings = [] }

in_file-push : (f : FilePart → Option FilePart) (ps : List PhasePart) (fs : List FilePart) (p q : FilePart) → f p ≡ Some q → in_file f (of_files ps (fs ++ p ∷ [])) ≡ Some (of_files ps (fs ++ q ∷ []))
in_file-push f ps fs p q e = ap (option_map (of_files ps)) (with_last-push f fs p ∙ ap (option_map (λ y. fs ++ y ∷ [])) e)

runs_places : (ps : List PhasePart) (fs : List FilePart) (f : FilePart) → FitFile f → Runs (of_files ps (fs ++ record f { lines = [] } ∷ [])) (map said.Place f.lines) (of_files ps (fs ++ f ∷ []))
runs_places ps fs f fit =
    let put : List PlaceLine → FilePart = λ xs. record f { lines = xs } in
    runs_map said.Place (λ xs. of_files ps (fs ++ put xs ∷ [])) (Rising FitPlace place_before)
    (λ xs l good.
    let made : with_place l (put xs) ≡ Some (put (xs ++ l ∷ [])) = ap (λ b. option_map put (and_item b xs l)) good.1 in
    runs_one (said.Place l) (of_files ps (fs ++ put xs ∷ [])) (of_files ps (fs ++ put (xs ++ l ∷ []) ∷ [])) refl (in_file-push (with_place l) ps fs (put xs) (put (xs ++ l ∷ [])) made))
    [] f.lines (good_rising FitPlace place_before [] f.lines fit.lines fit.lines_rise)

runs_files : (ps : List PhasePart) (files : List FilePart) → AllByRecursion FitFile files → rises file_before files ≡ true → Runs (of_phases ps) (flat_map file_said files) (of_files ps files)
runs_files ps files fit rise =
    runs_each file_said (of_files ps) (Rising FitFile file_before)
    (λ fs f good.
    let s : Said = said.File f.file f.claimed f.freed in
    let first : FilePart = record f { lines = [] } in
    let made : with_line s (of_files ps fs) ≡ Some (of_files ps (fs ++ first ∷ [])) = ap (λ b. option_map (of_files ps) (and_item b fs first)) good.1 in
    runs_then (of_files ps fs) (of_files ps (fs ++ first ∷ [])) (of_files ps (fs ++ f ∷ [])) (s ∷ []) (map said.Place f.lines)
    (runs_one s (of_files ps fs) (of_files ps (fs ++ first ∷ [])) refl made) (runs_places ps fs f good.0))
    [] files (good_rising FitFile file_before [] files fit rise)

-- ---- guests

abbrev of_guests : List PhasePart → List FilePart → List GuestPart → Trace
of_guests ps fs gs = record { phases = ps; files = fs; guests = gs; rings = [] }

in_guest-push : (f : GuestPart → Option GuestPart) (ps : List PhasePart) (fs : List FilePart) (gs : List GuestPart) (p q : GuestPart) → f p ≡ Some q → in_guest f (of_guests ps fs (gs ++ p ∷ [])) ≡ Some (of_guests ps fs (gs ++ q ∷ []))
in_guest-push f ps fs gs p q e = ap (option_map (of_guests ps fs)) (with_last-push f gs p ∙ ap (option_map (λ y. gs ++ y ∷ [])) e)

runs_guests : (ps : List PhasePart) (fs : List FilePart) (guests : List GuestPart) → AllByRecursion FitGuest guests → rises guest_before guests ≡ true → Runs (of_files ps fs) (flat_map guest_said guests) (of_guests ps fs guests)
runs_guests ps fs guests fit rise =
    runs_each guest_said (of_guests ps fs) (Rising FitGuest guest_before)
    (λ gs g good.
    let put : List StepLine → GuestPart = λ xs. record g { steps = xs } in
    let made : with_line (said.Guest g.guest) (of_guests ps fs gs) ≡ Some (of_guests ps fs (gs ++ put [] ∷ [])) = ap (λ b. option_map (of_guests ps fs) (and_item b gs (put []))) good.1 in
    runs_then (of_guests ps fs gs) (of_guests ps fs (gs ++ put [] ∷ [])) (of_guests ps fs (gs ++ g ∷ [])) (said.Guest g.guest ∷ []) (map said.Step g.steps)
    (runs_one (said.Guest g.guest) (of_guests ps fs gs) (of_guests ps fs (gs ++ put [] ∷ [])) refl made)
    (runs_map said.Step (λ xs. of_guests ps fs (gs ++ put xs ∷ [])) Any
    (λ xs s good. runs_one (said.Step s) (of_guests ps fs (gs ++ put xs ∷ [])) (of_guests ps fs (gs ++ put (xs ++ s ∷ []) ∷ [])) refl (in_guest-push (with_step s) ps fs gs (put xs) (put (xs ++ s ∷ [])) refl))
    [] g.steps (good_any [] g.steps)))
    [] guests (good_rising FitGuest guest_before [] guests fit rise)

-- ---- rings

abbrev of_rings : List PhasePart → List FilePart → List GuestPart → List RingPart → Trace
of_rings ps fs gs rs = record { phases = ps; files = fs; guests = gs; rings = rs }

in_ring-push : (f : RingPart → Option RingPart) (ps : List PhasePart) (fs : List FilePart) (gs : List GuestPart) (rs : List RingPart) (p q : RingPart) → f p ≡ Some q → in_ring f (of_rings ps fs gs (rs ++ p ∷ [])) ≡ Some (of_rings ps fs gs (rs ++ q ∷ []))
in_ring-push f ps fs gs rs p q e = ap (option_map (of_rings ps fs gs)) (with_last-push f rs p ∙ ap (option_map (λ y. rs ++ y ∷ [])) e)

-- a list can stand behind the lists before it
abbrev FirstAtZero : List PositionList → PositionList → Type 0
FirstAtZero xs l = (if none_yet xs then l.base == 0 else true) ≡ true

good_lists_on : (xs rest : List PositionList) → none_yet xs ≡ false → AllGood FirstAtZero xs rest
good_lists_on xs [] e = tt
good_lists_on xs (l ∷ rest) e = (ap (λ b. if b then l.base == 0 else true) e, good_lists_on (xs ++ l ∷ []) rest (none_yet-push xs l))

good_lists : (lists : List PositionList) → BeginsAtZero lists → AllGood FirstAtZero [] lists
good_lists [] z = absurd z
good_lists (l ∷ rest) z = (eq-eqb l.base 0 z, good_lists_on (l ∷ []) rest refl)

runs_lists : (ps : List PhasePart) (fs : List FilePart) (gs : List GuestPart) (rs : List RingPart) (r : RingPart) → BeginsAtZero r.lists
    → Runs (of_rings ps fs gs (rs ++ record r { lists = [] } ∷ [])) (flat_map list_said r.lists) (of_rings ps fs gs (rs ++ r ∷ []))
runs_lists ps fs gs rs r zero =
    let put : List PositionList → RingPart = λ xs. record r { lists = xs } in
    let at : List PositionList → Trace = λ xs. of_rings ps fs gs (rs ++ put xs ∷ []) in
    runs_each list_said at FirstAtZero
    (λ xs l good.
    let with : List (ℕ × ℕ × ℕ) → PositionList = λ us. record l { used = us } in
    let made : with_base l.base (put xs) ≡ Some (put (xs ++ with [] ∷ [])) = ap (λ b. option_map put (and_item b xs (with []))) good in
    runs_then (at xs) (at (xs ++ with [] ∷ [])) (at (xs ++ l ∷ [])) (said.Base l.base ∷ []) (map used_said l.used)
    (runs_one (said.Base l.base) (at xs) (at (xs ++ with [] ∷ [])) refl (in_ring-push (with_base l.base) ps fs gs rs (put xs) (put (xs ++ with [] ∷ [])) made))
    (runs_map used_said (λ us. at (xs ++ with us ∷ [])) Any
    (λ us u good.
    let more : PositionList → Option PositionList = λ k. Some (record k { used = k.used ++ u ∷ [] }) in
    let used : with_used u (put (xs ++ with us ∷ [])) ≡ Some (put (xs ++ with (us ++ u ∷ []) ∷ [])) = ap (option_map put) (with_last-push more xs (with us)) in
    runs_one (used_said u) (at (xs ++ with us ∷ [])) (at (xs ++ with (us ++ u ∷ []) ∷ [])) refl
    (in_ring-push (with_used u) ps fs gs rs (put (xs ++ with us ∷ [])) (put (xs ++ with (us ++ u ∷ []) ∷ [])) used))
    [] l.used (good_any [] l.used)))
    [] r.lists (good_lists r.lists zero)

-- a ring can stand behind rings in their order that have their lists
abbrev GoodRing : List RingPart → RingPart → Type 0
GoodRing xs r = FitRing r × (may_follow ring_before xs r ≡ true) × (passes is_listed (last_item xs) ≡ true)

has_list : (lists : List PositionList) → BeginsAtZero lists → not (none_yet lists) ≡ true
has_list [] z = absurd z
has_list (l ∷ ls) z = refl

good_rings : (xs rest : List RingPart) → AllByRecursion FitRing rest → rises ring_before (xs ++ rest) ≡ true → passes is_listed (last_item xs) ≡ true → AllGood GoodRing xs rest
good_rings xs [] fit r listed = tt
good_rings xs (q ∷ rest) fit r listed = (
  (fit.0, rises_split ring_before xs q rest r, listed),
  good_rings (xs ++ q ∷ []) rest fit.1 (ap (rises ring_before) (append_assoc xs (q ∷ []) rest) ∙ r) (ap (passes is_listed) (last_item-push xs q) ∙ has_list q.lists fit.0.1),
)

runs_rings : (ps : List PhasePart) (fs : List FilePart) (gs : List GuestPart) (rings : List RingPart) → AllByRecursion FitRing rings → rises ring_before rings ≡ true → Runs (of_guests ps fs gs) (flat_map ring_said rings) (of_rings ps fs gs rings)
runs_rings ps fs gs rings fit rise =
    let at : List RingPart → Trace = of_rings ps fs gs in
    runs_each ring_said at GoodRing
    (λ rs r good.
    let s : Said = said.Ring r.vhost r.ring in
    let first : RingPart = record r { lists = [] } in
    let test : Bool = passes is_listed (last_item rs) && may_follow ring_before rs r in
    let held : test ≡ true = and_from (passes is_listed (last_item rs)) (may_follow ring_before rs r) good.2 good.1 in
    let made : with_line s (at rs) ≡ Some (at (rs ++ first ∷ [])) = ap (λ b. option_map at (and_item b rs first)) held in
    runs_then (at rs) (at (rs ++ first ∷ [])) (at (rs ++ r ∷ [])) (s ∷ []) (flat_map list_said r.lists)
    (runs_one s (at rs) (at (rs ++ first ∷ [])) refl made) (runs_lists ps fs gs rs r good.0.1))
    [] rings (good_rings [] rings fit rise refl)

-- ---- all lines

runs_body : (t : Trace) → FitTrace t → Runs empty (body t) t
runs_body t fit =
    runs_then empty (of_phases t.phases) t (phases_said 0 t.phases) (files_on t) (runs_phases [] t.phases 0 refl fit.phases)
    (runs_then (of_phases t.phases) (of_files t.phases t.files) t (flat_map file_said t.files) (guests_on t) (runs_files t.phases t.files fit.files fit.files_rise)
    (runs_then (of_files t.phases t.files) (of_guests t.phases t.files t.guests) t (flat_map guest_said t.guests) (rings_on t) (runs_guests t.phases t.files t.guests fit.guests fit.guests_rise)
    (runs_rings t.phases t.files t.guests t.rings fit.rings fit.rings_rise)))

pub all_listed : (rs : List RingPart) → AllByRecursion FitRing rs → passes is_listed (last_item rs) ≡ true
all_listed [] fit = refl
all_listed (r ∷ []) fit = has_list r.lists fit.0.1
all_listed (r ∷ q ∷ rs) fit = all_listed (q ∷ rs) fit.1

-- the whole text
pub run_again : (t : Trace) → FitTrace t → run start (sentences t) ≡ Some (record { stage = Ended; trace = t })
run_again t fit =
    run-append (inside empty) (body t) (said.End ∷ []) ∙ on_some (run (inside empty) (body t)) (inside t) (λ c. run c (said.End ∷ [])) (runs_body t fit)
    ∙ ap (λ b. on (behind_stage (Some Ended) (if b then Some t else None)) (λ c. run c [])) (all_listed t.rings fit.rings)
