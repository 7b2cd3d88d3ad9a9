-- What lines say that were read one after another: the builder has heard them, and no fitting trace says otherwise.
use Rattle.std.proofs.Common.{◌≡◌, ℕ, suc, ◌+◌, ◌<◌, ◌≤◌, ◌^◌, true, List, [], ◌∷◌, ◌++◌, length, map, Some, refl, sym, ◌∙◌, ap, append_assoc, arith, length-append}
use Rattle.std.specs.List.{AllByRecursion, flat_map, list_all}
use Rattle.std.proofs.lemmas.Bool.{and_parts}
use Rattle.std.proofs.lemmas.Grind.{flat_map-append}
use Rattle.std.proofs.lemmas.List.{append-nil, map-append}
use Rattle.tap_trace.specs.declared.trace.PhasePart.{PhasePart}
use Rattle.tap_trace.specs.declared.trace.Trace.{Trace}
use Rattle.text_fields.specs.Lines.{ended, line_of, text_of}
use Rattle.scen_words.specs.Field.{line, text}
use Rattle.trace_words.specs.Laws.{LinesHaveNoEnd, LinesSayOneThing}
use Rattle.trace_words.specs.Said.{FitSaid, Says, said_fields}
use Rattle.trace_words.specs.declared.said.Said.{Said}
use Rattle.trace_words.specs.declared.said.Said.TheVariants as said
use Rattle.trace_text.specs.BadLine.{Begins}
use Rattle.trace_text.specs.Building.{start, step}
use Rattle.trace_text.specs.Ordered.{FitTrace, StandsFor}
use Rattle.trace_text.specs.TraceText.{trace_text}
use Rattle.trace_text.specs.declared.builder.Builder.{Builder}
use Rattle.trace_text.specs.declared.builder.Stage.{Stage}
use Rattle.trace_text.specs.declared.builder.Stage.TheVariants.{Start, Inside, Ended}
use Rattle.trace_text.proofs.Again.{run_again}
use Rattle.trace_text.proofs.Closing.{closing, whole_fits}
use Rattle.trace_text.proofs.Fitting.{FitBut, sentences_fit}
use Rattle.trace_text.proofs.Heard.{Sound, heard, on, on_by, on_some, run, run-append, run_hears}
use Rattle.trace_text.proofs.Lists.{some_is}
use Rattle.trace_text.proofs.Next.{is_inner, next_same, phase_number, said_line, same_cut}
use Rattle.trace_text.proofs.Sentences.{body, files_on, lines_said, phase_said, phases_said, sentences}

-- ---- texts

-- the bytes of some sentences
abbrev pub text_said : List Said → List ℕ
text_said ss = flat_map (λ s. ended (said_line s)) ss

mapped_text : (ss : List Said) → text (map said_fields ss) ≡ text_said ss
mapped_text [] = refl
mapped_text (s ∷ ss) = ap (λ t. ended (said_line s) ++ t) (mapped_text ss)

-- the text of a trace
pub trace_said : (t : Trace) → trace_text t ≡ text_said (sentences t)
trace_said t = ap text (lines_said t) ∙ mapped_text (sentences t)

pub lined_text : (lines : List (List (List ℕ))) → text_of (map line_of lines) ≡ text lines
lined_text [] = refl
lined_text (l ∷ lines) = ap (λ t. line l ++ t) (lined_text lines)

-- ---- lines that say these sentences

abbrev pub AllSay : List (List ℕ) → List Said → Type 0
AllSay [] [] = Unit {0}
AllSay [] (s ∷ ss) = ⊥
AllSay (l ∷ ls) [] = ⊥
AllSay (l ∷ ls) (s ∷ ss) = Says l s × AllSay ls ss

says_push : (ls : List (List ℕ)) (ss : List Said) (l : List ℕ) (s : Said) → AllSay ls ss → Says l s → AllSay (ls ++ l ∷ []) (ss ++ s ∷ [])
says_push [] [] l s all says = (says, tt)
says_push [] (u ∷ ss) l s all says = absurd all
says_push (k ∷ ls) [] l s all says = absurd all
says_push (k ∷ ls) (u ∷ ss) l s all says = (all.0, says_push ls ss l s all.1 says)

says_fit : (ls : List (List ℕ)) (ss : List Said) → AllSay ls ss → AllByRecursion FitSaid ss
says_fit [] [] all = tt
says_fit [] (s ∷ ss) all = absurd all
says_fit (l ∷ ls) [] all = absurd all
says_fit (l ∷ ls) (s ∷ ss) all = (all.0.0, says_fit ls ss all.1)

says_lines : (ls : List (List ℕ)) (ss : List Said) → AllSay ls ss → map line_of (map said_fields ss) ≡ ls
says_lines [] [] all = refl
says_lines [] (s ∷ ss) all = absurd all
says_lines (l ∷ ls) [] all = absurd all
says_lines (l ∷ ls) (s ∷ ss) all = ap (λ k. k ∷ map line_of (map said_fields ss)) (sym all.0.1) ∙ ap (λ ks. l ∷ ks) (says_lines ls ss all.1)

says_text : (ls : List (List ℕ)) (ss : List Said) → AllSay ls ss → text_of ls ≡ text_said ss
says_text [] [] all = refl
says_text [] (s ∷ ss) all = absurd all
says_text (l ∷ ls) [] all = absurd all
says_text (l ∷ ls) (s ∷ ss) all = ap (λ k. ended k ++ text_of ls) all.0.1 ∙ ap (λ t. ended (said_line s) ++ t) (says_text ls ss all.1)

says_length : (ls : List (List ℕ)) (ss : List Said) → AllSay ls ss → length ss ≡ length ls
says_length [] [] all = refl
says_length [] (s ∷ ss) all = absurd all
says_length (l ∷ ls) [] all = absurd all
says_length (l ∷ ls) (s ∷ ss) all = let rest = says_length ls ss all.1 in omega arith

pub but_fits : (s : Said) → FitSaid s → FitBut s
but_fits (said.Phase number actors) fit = fit.1
but_fits s fit = fit

all_but : (ss : List Said) → AllByRecursion FitSaid ss → AllByRecursion FitBut ss
all_but [] all = tt
all_but (s ∷ ss) all = (but_fits s all.0, all_but ss all.1)

-- ---- how many phases there can be

phases_count : (n : ℕ) (ps : List PhasePart) → length ps ≤ length (phases_said n ps)
phases_count n [] = omega arith
phases_count n (p ∷ ps) = let rest = phases_count (suc n) ps in let both = length-append (phase_said n p) (phases_said (suc n) ps) in omega arith

heard_count : (stage : Stage) (t : Trace) → Sound stage t → length t.phases ≤ length (heard stage t)
heard_count Start t sound = omega (arith, ap (λ (u : Trace). length u.phases) sound)
heard_count Inside t sound = omega (arith, phases_count 0 t.phases, length-append (phases_said 0 t.phases) (files_on t))
heard_count Ended t sound = omega (arith, phases_count 0 t.phases, length-append (phases_said 0 t.phases) (files_on t), length-append (body t) (said.End ∷ []))

-- a line that can stand fits, where the phases are few enough to have numbers
pub fits_in : (b : Builder) (s : Said) (c : Builder) → length b.trace.phases < 2 ^ 64 → FitBut s → step b s ≡ Some c → FitSaid s
fits_in b (said.Phase number actors) c few fit e = let is = phase_number b number actors c e in (omega arith, fit)
fits_in b s c few fit e = fit

-- ---- what was read

-- so many lines were read, and this is what is left and what is built
pub record Read (bytes rest : List ℕ) (count : ℕ) (b : Builder) : Type 0 where
  pub lines : List (List ℕ)
  pub said : List Said
  pub says : AllSay lines said
  pub runs : run start said ≡ Some b
  pub whole : bytes ≡ text_of lines ++ rest
  pub counted : count ≡ length lines

pub read_start : (bytes : List ℕ) → Read bytes bytes 0 start
read_start bytes = record { lines = []; said = []; says = tt; runs = refl; whole = refl; counted = refl }

text_more : (ls : List (List ℕ)) (l rest : List ℕ) → text_of ls ++ (l ++ 10 ∷ rest) ≡ text_of (ls ++ l ∷ []) ++ rest
text_more ls l rest =
    let cut : text_of (ls ++ l ∷ []) ≡ text_of ls ++ (l ++ 10 ∷ []) = flat_map-append ended ls (l ∷ []) ∙ ap (λ t. text_of ls ++ t) (append-nil (ended l)) in
    ap (λ t. text_of ls ++ t) (sym (append_assoc l (10 ∷ []) rest)) ∙ sym (append_assoc (text_of ls) (l ++ 10 ∷ []) rest) ∙ ap (λ t. t ++ rest) (sym cut)

pub read_more : (bytes l rest : List ℕ) (count : ℕ) (b : Builder) (s : Said) (c : Builder) → Read bytes (l ++ 10 ∷ rest) count b → Says l s → step b s ≡ Some c → Read bytes rest (count + 1) c
read_more bytes l rest count b s c r says e = record {
  lines = r.lines ++ l ∷ [];
  said = r.said ++ s ∷ [];
  says = says_push r.lines r.said l s r.says says;
  runs = run-append start r.said (s ∷ []) ∙ on_some (run start r.said) b (λ d. run d (s ∷ [])) r.runs ∙ ap (λ o. on o (λ d. run d [])) e;
  whole = r.whole ∙ text_more r.lines l rest;
  counted = omega (arith, length-append r.lines (l ∷ []), r.counted);
}

text_count : (ls : List (List ℕ)) → length ls ≤ length (text_of ls)
text_count [] = omega arith
text_count (l ∷ ls) = omega (arith, text_count ls, length-append (ended l) (text_of ls), length-append l (10 ∷ []))

-- each line has its LF
pub read_count : (bytes rest : List ℕ) (count : ℕ) (b : Builder) → Read bytes rest count b → count + length rest ≤ length bytes
read_count bytes rest count b r = omega (arith, text_count r.lines, ap length r.whole, length-append (text_of r.lines) rest, r.counted)

sound_of : (bytes rest : List ℕ) (count : ℕ) (b : Builder) (r : Read bytes rest count b) → Sound b.stage b.trace × (heard b.stage b.trace ≡ r.said)
sound_of bytes rest count b r = run_hears r.said start b (says_fit r.lines r.said r.says) refl r.runs

read_few : (bytes rest : List ℕ) (count : ℕ) (b : Builder) → length bytes < 2 ^ 64 → Read bytes rest count b → length b.trace.phases < 2 ^ 64
read_few bytes rest count b short r =
    let sound = sound_of bytes rest count b r in
    omega (arith, short, heard_count b.stage b.trace sound.0, ap length sound.1, says_length r.lines r.said r.says, r.counted, read_count bytes rest count b r)

-- ---- beginnings

-- a text begins with the lines that were read
pub read_begins : (bytes rest : List ℕ) (count : ℕ) (b : Builder) (r : Read bytes rest count b) → Begins r.lines
read_begins bytes rest count b r =
    let sound = sound_of bytes rest count b r in
    let closed = closing b.stage b.trace sound.0 in (
      closed.trace,
      closed.fits,
      map line_of (map said_fields closed.more),
      ap (map line_of) (lines_said closed.trace ∙ ap (map said_fields) (closed.whole ∙ ap (λ h. h ++ closed.more) sound.1) ∙ map-append said_fields r.said closed.more)
          ∙ map-append line_of (map said_fields r.said) (map said_fields closed.more)
          ∙ ap (λ ls. ls ++ map line_of (map said_fields closed.more)) (says_lines r.lines r.said r.says),
    )

no_text : (p x : List ℕ) → p ++ 10 ∷ x ≡ [] → ⊥
no_text [] x e = absurd cc
no_text (b ∷ p) x e = absurd cc

not_inner : (p x : List ℕ) → list_all is_inner (p ++ 10 ∷ x) ≡ true → ⊥
not_inner [] x e = absurd cc
not_inner (b ∷ p) x e = not_inner p x (and_parts (is_inner b) (list_all is_inner (p ++ 10 ∷ x)) e).1

one_ended : (s : Said) (ss : List Said) (x : List ℕ) → text_said (s ∷ ss) ++ x ≡ said_line s ++ 10 ∷ (text_said ss ++ x)
one_ended s ss x = append_assoc (ended (said_line s)) (text_said ss) x ∙ append_assoc (said_line s) (10 ∷ []) (text_said ss ++ x)

module _ (one : LinesSayOneThing) (no_end : LinesHaveNoEnd) where
  -- the sentences of a text that begins like this begin so too
  Front : List Said → List Said → Builder → Builder → List ℕ → Type 0
  Front ss us c d x = (rest : List Said) × (us ≡ ss ++ rest) × (x ≡ text_said rest) × AllByRecursion FitBut rest × (run c rest ≡ Some d)

  same_front : (ss us : List Said) (b c d : Builder) (x : List ℕ) → AllByRecursion FitBut ss → AllByRecursion FitBut us → run b ss ≡ Some c → run b us ≡ Some d
      → text_said ss ++ x ≡ text_said us → Front ss us c d x
  unfolding Front
  same_front [] us b c d x fit_ss fit_us runs_ss runs_us e = (us, refl, e, fit_us, ap (λ f. run f us) (sym (some_is b c runs_ss)) ∙ runs_us)
  same_front (s ∷ ss) [] b c d x fit_ss fit_us runs_ss runs_us e = absurd (no_text (said_line s) (text_said ss ++ x) (sym (one_ended s ss x) ∙ e))
  same_front (s ∷ ss) (u ∷ us) b c d x fit_ss fit_us runs_ss runs_us e =
      on_by (step b s) (λ f. run f ss) c (Front (s ∷ ss) (u ∷ us) c d x) runs_ss
      (λ f made_s then_s. on_by (step b u) (λ f. run f us) d (Front (s ∷ ss) (u ∷ us) c d x) runs_us
      (λ g made_u then_u.
      let lines : said_line s ++ 10 ∷ (text_said ss ++ x) ≡ said_line u ++ 10 ∷ text_said us = sym (one_ended s ss x) ∙ e ∙ append_assoc (said_line u) (10 ∷ []) (text_said us) in
      let same = next_same one no_end b s u f g (text_said ss ++ x) (text_said us) fit_ss.0 fit_us.0 made_s made_u lines in
      let builders : f ≡ g = some_is f g (sym made_s ∙ ap (step b) same.0 ∙ made_u) in
      let on_f : run f us ≡ Some d = ap (λ h. run h us) builders ∙ then_u in
      let rest = same_front ss us f c d x fit_ss.1 fit_us.1 then_s on_f same.1 in
      (rest.0, ap (λ v. v ∷ us) (sym same.0) ∙ ap (λ vs. s ∷ vs) rest.1, rest.2, rest.3, rest.4)))

  -- two fitting traces with one text are one
  pub one_trace : (s t : Trace) → FitTrace s → FitTrace t → trace_text s ≡ trace_text t → s ≡ t
  unfolding Front
  one_trace s t fit_s fit_t e =
      let end : Trace → Builder = λ u. record { stage = Ended; trace = u } in
      let texts : text_said (sentences s) ++ [] ≡ text_said (sentences t) = append-nil (text_said (sentences s)) ∙ sym (trace_said s) ∙ e ∙ trace_said t in
      let front = same_front (sentences s) (sentences t) start (end s) (end t) [] (sentences_fit s fit_s) (sentences_fit t fit_t) (run_again s fit_s) (run_again t fit_t) texts in
      by front.0 front.2 front.4
    where
      by : (rest : List Said) → [] ≡ text_said rest → run (record { stage = Ended; trace = s }) rest ≡ Some (record { stage = Ended; trace = t }) → s ≡ t
      by [] none runs = ap (λ (b : Builder). b.trace) (some_is (record { stage = Ended; trace = s }) (record { stage = Ended; trace = t }) runs)
      by (u ∷ us) none runs = absurd (no_text (said_line u) (text_said us) (sym (none ∙ append_assoc (said_line u) (10 ∷ []) (text_said us))))

  -- what a fitting trace's text has behind the lines that were read
  After : Builder → Trace → List ℕ → Type 0
  After b t x = (rest : List Said) × (x ≡ text_said rest) × AllByRecursion FitBut rest × (run b rest ≡ Some (record { stage = Ended; trace = t }))

  after : (bytes rest : List ℕ) (count : ℕ) (b : Builder) (r : Read bytes rest count b) (t : Trace) (x : List ℕ) → FitTrace t → text_of r.lines ++ x ≡ trace_text t → After b t x
  unfolding Front After
  after bytes rest count b r t x fit e =
      let front = same_front r.said (sentences t) start b (record { stage = Ended; trace = t }) x (all_but r.said (says_fit r.lines r.said r.says)) (sentences_fit t fit) r.runs (run_again t fit)
      (ap (λ y. y ++ x) (sym (says_text r.lines r.said r.says)) ∙ e ∙ trace_said t) in
      (front.0, front.2, front.3, front.4)

  -- no line that says this can stand behind the lines that were read
  abbrev pub NoLine : Builder → List ℕ → Type 0
  NoLine b l = (s : Said) (c : Builder) → Says l s → step b s ≡ Some c → ⊥

  -- then no text goes on with that line
  pub no_more : (bytes rest : List ℕ) (count : ℕ) (b : Builder) (r : Read bytes rest count b) (l x : List ℕ) (t : Trace) → length bytes < 2 ^ 64 → list_all is_inner l ≡ true → NoLine b l → FitTrace t
      → text_of r.lines ++ (l ++ 10 ∷ x) ≡ trace_text t → ⊥
  unfolding After
  no_more bytes rest count b r l x t short inner none fit e =
      let a = after bytes rest count b r t (l ++ 10 ∷ x) fit e in by a.0 a.1 a.2 a.3
    where
      by : (us : List Said) → l ++ 10 ∷ x ≡ text_said us → AllByRecursion FitBut us → run b us ≡ Some (record { stage = Ended; trace = t }) → ⊥
      by [] is fits runs = no_text l x is
      by (u ∷ us) is fits runs =
          on_by (step b u) (λ f. run f us) (record { stage = Ended; trace = t }) ⊥ runs
          (λ c made then_u.
          let fit_u : FitSaid u = fits_in b u c (read_few bytes rest count b short r) fits.0 made in
          let cut = same_cut l (said_line u) x (text_said us) inner (no_end (said_line u) u (fit_u, refl)) (is ∙ append_assoc (said_line u) (10 ∷ []) (text_said us)) in
          none u c (fit_u, cut.0) made)

  -- where what is left has no LF, a trace that the bytes stand for is built, and nothing is left
  pub at_end : (bytes rest : List ℕ) (count : ℕ) (b : Builder) (r : Read bytes rest count b) (t : Trace) → list_all is_inner rest ≡ true → StandsFor bytes t → (rest ≡ []) × (b ≡ record { stage = Ended; trace = t })
  unfolding After
  at_end bytes rest count b r t inner stands =
      let a = after bytes rest count b r t rest stands.0 (sym r.whole ∙ stands.1) in by a.0 a.1 a.3
    where
      by : (us : List Said) → rest ≡ text_said us → run b us ≡ Some (record { stage = Ended; trace = t }) → (rest ≡ []) × (b ≡ record { stage = Ended; trace = t })
      by [] is runs = (is, some_is b (record { stage = Ended; trace = t }) runs)
      by (u ∷ us) is runs =
          absurd (not_inner (said_line u) (text_said us) (ap (list_all is_inner) (sym (is ∙ append_assoc (said_line u) (10 ∷ []) (text_said us))) ∙ inner))

-- what is built behind `end`, where nothing is left, is what the bytes stand for
pub stands_for : (bytes : List ℕ) (count : ℕ) (t : Trace) → Read bytes [] count (record { stage = Ended; trace = t }) → StandsFor bytes t
stands_for bytes count t r =
    let sound = sound_of bytes [] count (record { stage = Ended; trace = t }) r in (
      whole_fits t sound.0.0 sound.0.1,
      r.whole ∙ append-nil (text_of r.lines) ∙ says_text r.lines r.said r.says ∙ ap text_said (sym sound.1) ∙ sym (trace_said t),
    )
