-- What is built is what the lines say: each step adds its line, and what is built can be closed to a whole trace.
use Rattle.std.proofs.Common.{◌≡◌, ℕ, suc, ◌+◌, Bool, true, nat_lt, ◌&&◌, ◌==◌, List, [], ◌∷◌, ◌++◌, length, map, Option, Some, refl, sym, ◌∙◌, ap, subst, append_assoc}
use Rattle.std.specs.List.{AllByRecursion, flat_map}
use Rattle.std.specs.Option.{option_map}
use Rattle.std.proofs.Common.{arith}
use Rattle.std.proofs.lemmas.Bool.{and_parts, eqb-true}
use Rattle.std.proofs.lemmas.List.{append-nil, map-append}
use Rattle.tap_trace.specs.declared.answer.Answer.{Answer}
use Rattle.tap_trace.specs.declared.answer.Answer.TheVariants as answer
use Rattle.tap_trace.specs.declared.trace.AnswerLine.{AnswerLine}
use Rattle.tap_trace.specs.declared.trace.FilePart.{FilePart}
use Rattle.tap_trace.specs.declared.trace.GuestPart.{GuestPart}
use Rattle.tap_trace.specs.declared.trace.OpLine.{OpLine}
use Rattle.tap_trace.specs.declared.trace.PhasePart.{PhasePart}
use Rattle.tap_trace.specs.declared.trace.PlaceLine.{PlaceLine}
use Rattle.tap_trace.specs.declared.trace.PositionList.{PositionList}
use Rattle.tap_trace.specs.declared.trace.RingPart.{RingPart}
use Rattle.tap_trace.specs.declared.trace.StepLine.{StepLine}
use Rattle.tap_trace.specs.declared.trace.Trace.{Trace}
use Rattle.tap_trace.specs.declared.turn.ChainText.{ChainText}
use Rattle.trace_causes.specs.Fits.{Is16, Is64, IsRing}
use Rattle.trace_words.specs.Fits.{FitAnswerLine, FitAnswer, FitChain, FitOpLine, FitPlace, FitStep}
use Rattle.trace_words.specs.Said.{IsBare}
use Rattle.trace_words.specs.declared.said.Said.{Said}
use Rattle.trace_words.specs.declared.said.Said.TheVariants as said
use Rattle.trace_text.specs.Building.{and_item, behind_answer, in_file, in_guest, in_phase, is_at_files, is_at_phases, may_follow, none_yet, with_answer, with_chain, with_file, with_guest, with_last, with_op, with_phase, with_place, with_resize, with_step, with_text}
use Rattle.trace_text.specs.Ordered.{FitFile, FitGuest, FitList, FitPhase, FitRing, answer_before, file_before, guest_before, op_before, place_before, ring_before, rises}
use Rattle.trace_text.proofs.Lists.{all_front, all_last, all_push, chosen_by, grown, grown_behind, is_none, item_by, last_by, made_by, parts_last, parts_push, rises_change, rises_push, some_is}
use Rattle.trace_text.proofs.Sentences.{answer_said, bare, behind_said, body, file_said, files_on, guest_said, guests_on, phase_said, phases_said, ring_said, rings_on}

-- ---- what fits so far: the last ring may lack its lists

abbrev pub StartsAtZero : List PositionList → Type 0
StartsAtZero [] = Unit {0}
StartsAtZero (l ∷ ls) = l.base ≡ 0

abbrev pub FitOpenRing : RingPart → Type 0
FitOpenRing r = IsRing r.vhost r.ring × StartsAtZero r.lists × AllByRecursion FitList r.lists

abbrev pub FitRings : List RingPart → Type 0
FitRings [] = Unit {0}
FitRings (r ∷ []) = FitOpenRing r
FitRings (r ∷ q ∷ rs) = FitRing r × FitRings (q ∷ rs)

pub record FitSoFar (t : Trace) : Type 0 where
  pub phases : AllByRecursion FitPhase t.phases
  pub files : AllByRecursion FitFile t.files
  pub files_rise : rises file_before t.files ≡ true
  pub guests : AllByRecursion FitGuest t.guests
  pub guests_rise : rises guest_before t.guests ≡ true
  pub rings : FitRings t.rings
  pub rings_rise : rises ring_before t.rings ≡ true

-- a part has one line more, and still fits
abbrev pub Grew : {A : Type 0} → (A → Type 0) → (A → List Said) → Said → A → A → Type 0
Grew Fit said s p q = Fit q × (said q ≡ said p ++ s ∷ [])

-- the same of the trace
abbrev pub Grows : Said → Trace → Trace → Type 0
Grows s t u = FitSoFar u × (body u ≡ body t ++ s ∷ [])

-- ---- in a phase

-- the phase and its lines with any number
abbrev pub GrewPhase : Said → PhasePart → PhasePart → Type 0
GrewPhase s p q = FitPhase q × ((n : ℕ) → phase_said n q ≡ phase_said n p ++ s ∷ [])

pub op_grew : (o : OpLine) (p q : PhasePart) → FitOpLine o → FitPhase p → with_op o p ≡ Some q → GrewPhase (said.Op o) p q
op_grew o p q fit_op fit e =
    made_by (λ ops. record p { ops = ops }) (and_item (none_yet p.answers && may_follow op_before p.ops o) p.ops o) q (GrewPhase (said.Op o) p) e
    (λ ops made. item_by (none_yet p.answers && may_follow op_before p.ops o) p.ops o ops (λ (os : List OpLine). GrewPhase (said.Op o) p (record p { ops = os })) made
    (λ test. let tests = and_parts (none_yet p.answers) (may_follow op_before p.ops o) test in
    let none : p.answers ≡ [] = is_none p.answers tests.0 in
    let empty : flat_map answer_said p.answers ≡ [] = ap (flat_map answer_said) none in
    let new : map said.Op (p.ops ++ o ∷ []) ≡ map said.Op p.ops ++ said.Op o ∷ [] = map-append said.Op p.ops (o ∷ []) in (
      record {
        actors = fit.actors;
        ops = all_push FitOpLine p.ops o fit.ops fit_op;
        ops_rise = rises_push op_before p.ops o fit.ops_rise tests.1;
        answers = fit.answers;
        answers_rise = fit.answers_rise;
      },
      λ n. ap (λ t. said.Phase n p.actors ∷ t) (grown (map said.Op p.ops) (map said.Op (p.ops ++ o ∷ [])) (flat_map answer_said p.answers) (said.Op o) empty new),
    )))

-- a bare answer is one line
bare_said : (actor command seen : ℕ) (a : Answer) → IsBare a → let line : AnswerLine = record { actor = actor; command = command; seen = seen; answer = a } in answer_said line ≡ said.Answer line ∷ []
bare_said actor command seen (answer.Resized version claimed freed cut) h = absurd h
bare_said actor command seen (answer.Turn packets bytes end chains) h =
    ap (λ cs. said.Answer (record { actor = actor; command = command; seen = seen; answer = answer.Turn packets bytes end [] }) ∷ map said.Chain cs) h
    ∙ ap (λ cs. said.Answer (record { actor = actor; command = command; seen = seen; answer = answer.Turn packets bytes end cs }) ∷ []) (sym h)
bare_said actor command seen _ h = refl

pub answer_grew : (a : AnswerLine) (p q : PhasePart) → FitAnswerLine a → IsBare a.answer → FitPhase p → with_answer a p ≡ Some q → GrewPhase (said.Answer a) p q
answer_grew a p q fit_answer is_bare fit e =
    made_by (λ answers. record p { answers = answers }) (and_item (may_follow answer_before p.answers a) p.answers a) q (GrewPhase (said.Answer a) p) e
    (λ answers made. item_by (may_follow answer_before p.answers a) p.answers a answers (λ (xs : List AnswerLine). GrewPhase (said.Answer a) p (record p { answers = xs })) made
    (λ test. (
      record {
        actors = fit.actors;
        ops = fit.ops;
        ops_rise = fit.ops_rise;
        answers = all_push FitAnswerLine p.answers a fit.answers fit_answer;
        answers_rise = rises_push answer_before p.answers a fit.answers_rise test;
      },
      λ n. ap (λ t. said.Phase n p.actors ∷ t) (grown_behind (map said.Op p.ops) (flat_map answer_said p.answers) (flat_map answer_said (p.answers ++ a ∷ [])) (said.Answer a)
          (parts_push answer_said p.answers a (said.Answer a) (bare_said a.actor a.command a.seen a.answer is_bare))),
    )))

-- a line behind an answer: what f makes of a text fits, and has this line more behind it
pub Behind : (Answer → Option Answer) → Said → Type 0
Behind f s = (a b : Answer) → FitAnswer a → f a ≡ Some b → FitAnswer b × (bare b ≡ bare a) × (behind_said b ≡ behind_said a ++ s ∷ [])

pub behind_grew : (f : Answer → Option Answer) (s : Said) (p q : PhasePart) → Behind f s → FitPhase p → behind_answer f p ≡ Some q → GrewPhase s p q
unfolding Behind
behind_grew f s p q behind fit e =
    made_by (λ answers. record p { answers = answers }) (with_last (with_text f) p.answers) q (GrewPhase s p) e
    (λ answers made. last_by (with_text f) p.answers answers
    (λ xs ys. AllByRecursion FitAnswerLine xs → rises answer_before xs ≡ true → GrewPhase s (record p { answers = xs }) (record p { answers = ys })) made
    (λ front x y step all rise. made_by (λ text. record x { answer = text }) (f x.answer) y
    (λ (z : AnswerLine). GrewPhase s (record p { answers = front ++ x ∷ [] }) (record p { answers = front ++ z ∷ [] })) step
    (λ text is.
    let old : FitAnswerLine x = all_last FitAnswerLine front x all in
    let b = behind x.answer text old.3 is in
    let new : AnswerLine = record x { answer = text } in
    let lines : answer_said new ≡ answer_said x ++ s ∷ [] =
    ap (λ (a : Answer). let z : AnswerLine = record x { answer = a } in said.Answer z ∷ behind_said text) b.1 ∙ ap (λ t. let z : AnswerLine = record x { answer = bare x.answer } in said.Answer z ∷ t) b.2 in (
      record {
        actors = fit.actors;
        ops = fit.ops;
        ops_rise = fit.ops_rise;
        answers = all_push FitAnswerLine front new (all_front FitAnswerLine front x all) (old.0, old.1, old.2, b.0);
        answers_rise = rises_change answer_before front x new (λ z. refl) rise;
      },
      λ n. ap (λ t. said.Phase n p.actors ∷ t) (grown_behind (map said.Op p.ops) (flat_map answer_said (front ++ x ∷ [])) (flat_map answer_said (front ++ new ∷ [])) s
          (parts_last answer_said front x new s lines)),
    )))
    fit.answers fit.answers_rise)

pub resize_behind : (claimed freed cut : ℕ) → Is64 claimed → Is64 freed → Is64 cut → Behind (with_resize claimed freed cut) (said.Resize claimed freed cut)
unfolding Behind
resize_behind claimed freed cut c f k (answer.Version version) b fit e =
    let is : answer.Resized version claimed freed cut ≡ b = some_is (answer.Resized version claimed freed cut) b e in
    let P : Answer → Type 0 = λ d. FitAnswer d × (bare d ≡ answer.Version version) × (behind_said d ≡ said.Resize claimed freed cut ∷ []) in
    subst P is ((fit, c, f, k), refl, refl)
resize_behind claimed freed cut c f k _ b fit e = absurd cc

pub chain_behind : (c : ChainText) → FitChain c → Behind (with_chain c) (said.Chain c)
unfolding Behind
chain_behind c fit_chain (answer.Turn packets bytes end chains) b fit e =
    let is : answer.Turn packets bytes end (chains ++ c ∷ []) ≡ b = some_is (answer.Turn packets bytes end (chains ++ c ∷ [])) b e in
    let P : Answer → Type 0 = λ d. FitAnswer d × (bare d ≡ answer.Turn packets bytes end []) × (behind_said d ≡ map said.Chain chains ++ said.Chain c ∷ []) in
    subst P is ((fit.0, fit.1, fit.2, all_push FitChain chains c fit.3 fit_chain), refl, map-append said.Chain chains (c ∷ []))
chain_behind c fit_chain _ b fit e = absurd cc

phases_last : (front : List PhasePart) (p q : PhasePart) (s : Said) → ((n : ℕ) → phase_said n q ≡ phase_said n p ++ s ∷ []) → (n : ℕ) → phases_said n (front ++ q ∷ []) ≡ phases_said n (front ++ p ∷ []) ++ s ∷ []
phases_last [] p q s is n = grown (phase_said n p) (phase_said n q) [] s refl (is n)
phases_last (r ∷ front) p q s is n = grown_behind (phase_said n r) (phases_said _ (front ++ p ∷ [])) (phases_said _ (front ++ q ∷ [])) s (phases_last front p q s is _)

-- nothing stands behind the phases, or behind the files
phases_end : (t : Trace) → is_at_phases t ≡ true → files_on t ≡ []
phases_end t e =
    let outer = and_parts (none_yet t.files && none_yet t.guests) (none_yet t.rings) e in
    let inner = and_parts (none_yet t.files) (none_yet t.guests) outer.0 in
    ap (λ fs. flat_map file_said fs ++ guests_on t) (is_none t.files inner.0)
    ∙ ap (λ gs. flat_map guest_said gs ++ rings_on t) (is_none t.guests inner.1)
    ∙ ap (flat_map ring_said) (is_none t.rings outer.1)

files_end : (t : Trace) → is_at_files t ≡ true → guests_on t ≡ []
files_end t e =
    let tests = and_parts (none_yet t.guests) (none_yet t.rings) e in
    ap (λ gs. flat_map guest_said gs ++ rings_on t) (is_none t.guests tests.0) ∙ ap (flat_map ring_said) (is_none t.rings tests.1)

pub in_phase_grows : (f : PhasePart → Option PhasePart) (s : Said) (t u : Trace) → ((p q : PhasePart) → FitPhase p → f p ≡ Some q → GrewPhase s p q) → FitSoFar t → in_phase f t ≡ Some u → Grows s t u
in_phase_grows f s t u each fit e =
    chosen_by (is_at_phases t) (option_map (λ phases. record t { phases = phases }) (with_last f t.phases)) u (Grows s t u) e
    (λ test made. made_by (λ phases. record t { phases = phases }) (with_last f t.phases) u (Grows s t) made
    (λ phases step. let made : AllByRecursion FitPhase phases × (phases_said 0 phases ++ files_on t ≡ (phases_said 0 t.phases ++ files_on t) ++ s ∷ []) =
    last_by f t.phases phases
    (λ ps qs. AllByRecursion FitPhase ps → AllByRecursion FitPhase qs × (phases_said 0 qs ++ files_on t ≡ (phases_said 0 ps ++ files_on t) ++ s ∷ [])) step
    (λ front p q is all. let new = each p q (all_last FitPhase front p all) is in (
      all_push FitPhase front q (all_front FitPhase front p all) new.0,
      grown (phases_said 0 (front ++ p ∷ [])) (phases_said 0 (front ++ q ∷ [])) (files_on t) s (phases_end t test) (phases_last front p q s new.1 0),
    ))
    fit.phases in (
      record {
        phases = made.0;
        files = fit.files;
        files_rise = fit.files_rise;
        guests = fit.guests;
        guests_rise = fit.guests_rise;
        rings = fit.rings;
        rings_rise = fit.rings_rise;
      },
      made.1,
    )))

phases_push : (ps : List PhasePart) (p : PhasePart) (n m : ℕ) → n + length ps ≡ m → phases_said n (ps ++ p ∷ []) ≡ phases_said n ps ++ phase_said m p
phases_push [] p n m is = append-nil (phase_said n p) ∙ ap (λ k. phase_said k p) (omega arith)
phases_push (q ∷ ps) p n m is =
    let next : suc n + length ps ≡ m = omega arith in
    ap (λ t. phase_said n q ++ t) (phases_push ps p (suc n) m next) ∙ sym (append_assoc (phase_said n q) (phases_said (suc n) ps) (phase_said m p))

pub phase_grows : (number actors : ℕ) (t u : Trace) → Is16 actors → FitSoFar t → with_phase number actors t ≡ Some u → Grows (said.Phase number actors) t u
phase_grows number actors t u is16 fit e =
    let p : PhasePart = record { actors = actors; ops = []; answers = [] } in
    let test : Bool = is_at_phases t && number == length t.phases in
    made_by (λ phases. record t { phases = phases }) (and_item test t.phases p) u (Grows (said.Phase number actors) t) e
    (λ phases made. item_by test t.phases p phases (λ (ps : List PhasePart). Grows (said.Phase number actors) t (record t { phases = ps })) made
    (λ held. let tests = and_parts (is_at_phases t) (number == length t.phases) held in
    let number_is : 0 + length t.phases ≡ number = omega (arith, eqb-true number (length t.phases) tests.1) in (
      record {
        phases = all_push FitPhase t.phases p fit.phases (record { actors = is16; ops = tt; ops_rise = refl; answers = tt; answers_rise = refl });
        files = fit.files;
        files_rise = fit.files_rise;
        guests = fit.guests;
        guests_rise = fit.guests_rise;
        rings = fit.rings;
        rings_rise = fit.rings_rise;
      },
      grown (phases_said 0 t.phases) (phases_said 0 (t.phases ++ p ∷ [])) (files_on t) (said.Phase number actors) (phases_end t tests.0) (phases_push t.phases p 0 number number_is),
    )))

-- ---- in a file's part

pub place_grew : (l : PlaceLine) (f g : FilePart) → FitPlace l → FitFile f → with_place l f ≡ Some g → Grew FitFile file_said (said.Place l) f g × (g.file ≡ f.file)
place_grew l f g fit_place fit e =
    made_by (λ lines. record f { lines = lines }) (and_item (may_follow place_before f.lines l) f.lines l) g (λ (h : FilePart). Grew FitFile file_said (said.Place l) f h × (h.file ≡ f.file)) e
    (λ lines made. item_by (may_follow place_before f.lines l) f.lines l lines
    (λ (ls : List PlaceLine). Grew FitFile file_said (said.Place l) f (record f { lines = ls }) × ((record f { lines = ls }).file ≡ f.file)) made
    (λ test. (
      (
        record {
          file = fit.file;
          claimed = fit.claimed;
          freed = fit.freed;
          lines = all_push FitPlace f.lines l fit.lines fit_place;
          lines_rise = rises_push place_before f.lines l fit.lines_rise test;
        },
        ap (λ t. said.File f.file f.claimed f.freed ∷ t) (map-append said.Place f.lines (l ∷ [])),
      ),
      refl,
    )))

pub in_file_grows : (f : FilePart → Option FilePart) (s : Said) (t u : Trace) → ((p q : FilePart) → FitFile p → f p ≡ Some q → Grew FitFile file_said s p q × (q.file ≡ p.file)) → FitSoFar t → in_file f t ≡ Some u → Grows s t u
in_file_grows f s t u each fit e =
    chosen_by (is_at_files t) (option_map (λ files. record t { files = files }) (with_last f t.files)) u (Grows s t u) e
    (λ test made. made_by (λ files. record t { files = files }) (with_last f t.files) u (Grows s t) made
    (λ files step. let made : AllByRecursion FitFile files × (rises file_before files ≡ true) × (flat_map file_said files ≡ flat_map file_said t.files ++ s ∷ []) =
    last_by f t.files files
    (λ ps qs. AllByRecursion FitFile ps → rises file_before ps ≡ true → AllByRecursion FitFile qs × (rises file_before qs ≡ true) × (flat_map file_said qs ≡ flat_map file_said ps ++ s ∷ [])) step
    (λ front p q is all rise. let new = each p q (all_last FitFile front p all) is in (
      all_push FitFile front q (all_front FitFile front p all) new.0.0,
      rises_change file_before front p q (λ z. ap (λ k. nat_lt z.file k) new.1) rise,
      parts_last file_said front p q s new.0.1,
    ))
    fit.files fit.files_rise in (
      record {
        phases = fit.phases;
        files = made.0;
        files_rise = made.1;
        guests = fit.guests;
        guests_rise = fit.guests_rise;
        rings = fit.rings;
        rings_rise = fit.rings_rise;
      },
      grown_behind (phases_said 0 t.phases) (files_on t) (flat_map file_said files ++ guests_on t) s
          (grown (flat_map file_said t.files) (flat_map file_said files) (guests_on t) s (files_end t test) made.2),
    )))

pub file_grows : (f : FilePart) (t u : Trace) → FitFile f → f.lines ≡ [] → FitSoFar t → with_file f t ≡ Some u → Grows (said.File f.file f.claimed f.freed) t u
file_grows f t u fit_file empty fit e =
    let s : Said = said.File f.file f.claimed f.freed in
    let test : Bool = is_at_files t && may_follow file_before t.files f in
    made_by (λ files. record t { files = files }) (and_item test t.files f) u (Grows s t) e
    (λ files made. item_by test t.files f files (λ (fs : List FilePart). Grows s t (record t { files = fs })) made
    (λ held. let tests = and_parts (is_at_files t) (may_follow file_before t.files f) held in (
      record {
        phases = fit.phases;
        files = all_push FitFile t.files f fit.files fit_file;
        files_rise = rises_push file_before t.files f fit.files_rise tests.1;
        guests = fit.guests;
        guests_rise = fit.guests_rise;
        rings = fit.rings;
        rings_rise = fit.rings_rise;
      },
      grown_behind (phases_said 0 t.phases) (files_on t) (flat_map file_said (t.files ++ f ∷ []) ++ guests_on t) s
          (grown (flat_map file_said t.files) (flat_map file_said (t.files ++ f ∷ [])) (guests_on t) s (files_end t tests.0)
          (parts_push file_said t.files f s (ap (λ ls. s ∷ map said.Place ls) empty))),
    )))

-- ---- in a guest's part

pub step_grew : (s : StepLine) (f g : GuestPart) → FitStep s → FitGuest f → with_step s f ≡ Some g → Grew FitGuest guest_said (said.Step s) f g × (g.guest ≡ f.guest)
step_grew s f g fit_step fit e =
    let new : GuestPart = record f { steps = f.steps ++ s ∷ [] } in
    let P : GuestPart → Type 0 = λ h. Grew FitGuest guest_said (said.Step s) f h × (h.guest ≡ f.guest) in
    subst P (some_is new g e)
    (((fit.0, all_push FitStep f.steps s fit.1 fit_step), ap (λ t. said.Guest f.guest ∷ t) (map-append said.Step f.steps (s ∷ []))), refl)

pub in_guest_grows : (f : GuestPart → Option GuestPart) (s : Said) (t u : Trace) → ((p q : GuestPart) → FitGuest p → f p ≡ Some q → Grew FitGuest guest_said s p q × (q.guest ≡ p.guest)) → FitSoFar t → in_guest f t ≡ Some u → Grows s t u
in_guest_grows f s t u each fit e =
    chosen_by (none_yet t.rings) (option_map (λ guests. record t { guests = guests }) (with_last f t.guests)) u (Grows s t u) e
    (λ test made. made_by (λ guests. record t { guests = guests }) (with_last f t.guests) u (Grows s t) made
    (λ guests step. let made : AllByRecursion FitGuest guests × (rises guest_before guests ≡ true) × (flat_map guest_said guests ≡ flat_map guest_said t.guests ++ s ∷ []) =
    last_by f t.guests guests
    (λ ps qs. AllByRecursion FitGuest ps → rises guest_before ps ≡ true → AllByRecursion FitGuest qs × (rises guest_before qs ≡ true) × (flat_map guest_said qs ≡ flat_map guest_said ps ++ s ∷ [])) step
    (λ front p q is all rise. let new = each p q (all_last FitGuest front p all) is in (
      all_push FitGuest front q (all_front FitGuest front p all) new.0.0,
      rises_change guest_before front p q (λ z. ap (λ k. nat_lt z.guest k) new.1) rise,
      parts_last guest_said front p q s new.0.1,
    ))
    fit.guests fit.guests_rise in (
      record {
        phases = fit.phases;
        files = fit.files;
        files_rise = fit.files_rise;
        guests = made.0;
        guests_rise = made.1;
        rings = fit.rings;
        rings_rise = fit.rings_rise;
      },
      grown_behind (phases_said 0 t.phases) (files_on t) (flat_map file_said t.files ++ (flat_map guest_said guests ++ rings_on t)) s
          (grown_behind (flat_map file_said t.files) (guests_on t) (flat_map guest_said guests ++ rings_on t) s
          (grown (flat_map guest_said t.guests) (flat_map guest_said guests) (rings_on t) s (ap (flat_map ring_said) (is_none t.rings test)) made.2)),
    )))

pub guest_grows : (g : GuestPart) (t u : Trace) → FitGuest g → g.steps ≡ [] → FitSoFar t → with_guest g t ≡ Some u → Grows (said.Guest g.guest) t u
guest_grows g t u fit_guest empty fit e =
    let s : Said = said.Guest g.guest in
    let test : Bool = none_yet t.rings && may_follow guest_before t.guests g in
    made_by (λ guests. record t { guests = guests }) (and_item test t.guests g) u (Grows s t) e
    (λ guests made. item_by test t.guests g guests (λ (gs : List GuestPart). Grows s t (record t { guests = gs })) made
    (λ held. let tests = and_parts (none_yet t.rings) (may_follow guest_before t.guests g) held in (
      record {
        phases = fit.phases;
        files = fit.files;
        files_rise = fit.files_rise;
        guests = all_push FitGuest t.guests g fit.guests fit_guest;
        guests_rise = rises_push guest_before t.guests g fit.guests_rise tests.1;
        rings = fit.rings;
        rings_rise = fit.rings_rise;
      },
      grown_behind (phases_said 0 t.phases) (files_on t) (flat_map file_said t.files ++ (flat_map guest_said (t.guests ++ g ∷ []) ++ rings_on t)) s
          (grown_behind (flat_map file_said t.files) (guests_on t) (flat_map guest_said (t.guests ++ g ∷ []) ++ rings_on t) s
          (grown (flat_map guest_said t.guests) (flat_map guest_said (t.guests ++ g ∷ [])) (rings_on t) s (ap (flat_map ring_said) (is_none t.rings tests.0))
          (parts_push guest_said t.guests g s (ap (λ ss. s ∷ map said.Step ss) empty)))),
    )))
