-- How the reading of a text ends: at a bad line, behind the last one, or with the trace.
use Rattle.std.proofs.Common.{◌≡◌, ℕ, suc, ◌+◌, ◌<◌, ◌^◌, Bool, true, false, ◌==◌, List, [], ◌∷◌, ◌++◌, length, take, Some, None, refl, sym, ◌∙◌, ap, subst, append_assoc, arith, length-append}
use Rattle.std.proofs.lemmas.Bool.{eqb-true}
use Rattle.std.proofs.lemmas.List.{append-nil}
use Rattle.tap_trace.specs.declared.trace.Trace.{Trace}
use Rattle.text_fields.specs.Lines.{text_of}
use Rattle.trace_words.specs.Laws.{LinesHaveNoEnd, LinesSayOneThing}
use Rattle.trace_words.specs.Said.{Says}
use Rattle.trace_words.specs.declared.said.Said.{Said}
use Rattle.trace_text.specs.BadLine.{Begins, IsBadLine, ended_lines}
use Rattle.trace_text.specs.Building.{Takes, step}
use Rattle.trace_text.specs.Ordered.{StandsFor}
use Rattle.trace_text.specs.Reading.{CantStand, IsCut, IsInner, TakesLine, at_stage, ended_trace}
use Rattle.trace_text.specs.TraceText.{trace_lines, trace_text}
use Rattle.trace_text.specs.declared.builder.Builder.{Builder}
use Rattle.trace_text.specs.declared.builder.Stage.{Stage}
use Rattle.trace_text.specs.declared.builder.Stage.TheVariants.{Start, Inside, Ended}
use Rattle.trace_text.proofs.Lines.{AllInner, ended_inner, ended_more, ended_text}
use Rattle.trace_text.proofs.Lists.{some_is}
use Rattle.trace_text.proofs.ReadLines.{AllSay, Read, lined_text, no_more, read_begins, read_more, stands_for}

pub take_front : {A : Type 0} (xs ys : List A) → take (length xs) (xs ++ ys) ≡ xs
take_front [] ys = refl
take_front (x ∷ xs) ys = ap (λ zs. x ∷ zs) (take_front xs ys)

pub take_one : {A : Type 0} (xs : List A) (y : A) (ys : List A) → take (suc (length xs)) (xs ++ y ∷ ys) ≡ xs ++ y ∷ []
take_one [] y ys = refl
take_one (x ∷ xs) y ys = ap (λ zs. x ∷ zs) (take_one xs y ys)

text_of-append : (xs ys : List (List ℕ)) → text_of (xs ++ ys) ≡ text_of xs ++ text_of ys
text_of-append [] ys = refl
text_of-append (x ∷ xs) ys = ap (λ t. (x ++ 10 ∷ []) ++ t) (text_of-append xs ys) ∙ sym (append_assoc (x ++ 10 ∷ []) (text_of xs) (text_of ys))

module _ (one : LinesSayOneThing) (no_end : LinesHaveNoEnd) where
  says_inner : (ls : List (List ℕ)) (ss : List Said) → AllSay ls ss → AllInner ls
  says_inner [] [] all = tt
  says_inner [] (s ∷ ss) all = absurd all
  says_inner (l ∷ ls) [] all = absurd all
  says_inner (l ∷ ls) (s ∷ ss) all = (no_end l s all.0, says_inner ls ss all.1)

  -- where a line can't stand, the bytes stand for no trace
  pub not_there : (bytes rest line behind : List ℕ) (n : ℕ) (b : Builder) → length bytes < 2 ^ 64 → Read bytes rest n b → IsCut rest line behind → CantStand b line → (t : Trace) → StandsFor bytes t → ⊥
  not_there bytes rest line behind n b short r cut none t stands =
      no_more one no_end bytes rest n b r line behind t short cut.0 none stands.0
      (ap (λ x. text_of r.lines ++ x) (sym cut.1) ∙ sym r.whole ∙ stands.1)

  -- and that line is the first bad one
  pub bad_line : (bytes rest line behind : List ℕ) (n : ℕ) (b : Builder) → length bytes < 2 ^ 64 → Read bytes rest n b → IsCut rest line behind → CantStand b line → IsBadLine bytes (n + 1)
  bad_line bytes rest line behind n b short r cut none =
      let lines : ended_lines bytes ≡ r.lines ++ line ∷ ended_lines behind =
      ap ended_lines (r.whole ∙ ap (λ t. text_of r.lines ++ t) cut.1) ∙ ended_more r.lines line behind (says_inner r.lines r.said r.says) cut.0 in
      let so_far : take n (ended_lines bytes) ≡ r.lines = ap (take n) lines ∙ ap (λ k. take k (r.lines ++ line ∷ ended_lines behind)) r.counted ∙ take_front r.lines (line ∷ ended_lines behind) in
      let up_to : take (suc n) (ended_lines bytes) ≡ r.lines ++ line ∷ [] =
      ap (take (suc n)) lines ∙ ap (λ k. take (suc k) (r.lines ++ line ∷ ended_lines behind)) r.counted ∙ take_one r.lines line (ended_lines behind) in
      let B : List (List ℕ) → Type 0 = λ ls. Begins ls in (
        n,
        refl,
        record {
          no_trace = not_there bytes rest line behind n b short r cut none;
          there = omega (arith, ap length lines, length-append r.lines (line ∷ ended_lines behind), r.counted);
          good = subst B (sym so_far) (read_begins bytes rest n b r);
          bad = λ there begins. goes_on bytes rest line n b r short cut.0 none (subst B up_to begins);
        },
      )
    where
      goes_on : (bytes rest line : List ℕ) (n : ℕ) (b : Builder) (r : Read bytes rest n b) → length bytes < 2 ^ 64 → IsInner line → CantStand b line → Begins (r.lines ++ line ∷ []) → ⊥
      goes_on bytes rest line n b r short inner none begins =
          let whole : text_of r.lines ++ (line ++ 10 ∷ text_of begins.2) ≡ trace_text begins.0 =
          ap (λ t. text_of r.lines ++ t) (sym (append_assoc line (10 ∷ []) (text_of begins.2)))
          ∙ sym (text_of-append r.lines (line ∷ begins.2))
          ∙ ap text_of (sym (append_assoc r.lines (line ∷ []) begins.2) ∙ sym begins.3)
          ∙ lined_text (trace_lines begins.0) in
          no_more one no_end bytes rest n b r line (text_of begins.2) begins.0 short inner none begins.1 whole

  -- behind the last line that has its LF, more is wanted
  pub bad_end : (bytes rest : List ℕ) (n : ℕ) (b : Builder) → Read bytes rest n b → IsInner rest → ((t : Trace) → StandsFor bytes t → ⊥) → IsBadLine bytes (n + 1)
  bad_end bytes rest n b r inner none =
      let lines : ended_lines bytes ≡ r.lines =
      ap ended_lines r.whole ∙ ended_text r.lines rest (says_inner r.lines r.said r.says) ∙ ap (λ ks. r.lines ++ ks) (ended_inner rest inner) ∙ append-nil r.lines in
      let so_far : take n (ended_lines bytes) ≡ r.lines =
      ap (take n) (lines ∙ sym (append-nil r.lines)) ∙ ap (λ k. take k (r.lines ++ [])) r.counted ∙ take_front r.lines [] in
      let B : List (List ℕ) → Type 0 = λ ls. Begins ls in (
        n,
        refl,
        record {
          no_trace = none;
          there = omega (arith, ap length lines, r.counted);
          good = subst B (sym so_far) (read_begins bytes rest n b r);
          bad = λ there begins. omega (arith, ap length lines, r.counted);
        },
      )

  -- a line was taken
  pub goes_on : (bytes rest line behind : List ℕ) (n : ℕ) (b c : Builder) → Read bytes rest n b → IsCut rest line behind → TakesLine b line true c → Read bytes behind (n + 1) c
  goes_on bytes rest line behind n b c r cut takes =
      let R : List ℕ → Type 0 = λ x. Read bytes x n b in
      read_more bytes line behind n b takes.0 c (subst R cut.1 r) takes.1 takes.2

-- the trace that is there behind `end` is the one that the bytes stand for
is_ended : (stage : Stage) (t u : Trace) → at_stage stage t ≡ Some u → (stage ≡ Ended) × (t ≡ u)
is_ended Start t u e = absurd cc
is_ended Inside t u e = absurd cc
is_ended Ended t u e = (refl, some_is t u e)

pub found_trace : (bytes rest : List ℕ) (n : ℕ) (b : Builder) (t : Trace) → Read bytes rest n b → rest ≡ [] → ended_trace b ≡ Some t → StandsFor bytes t
found_trace bytes rest n b t r none e =
    let is = is_ended b.stage b.trace t e in
    let R : List ℕ → Stage → Trace → Type 0 = λ x stage u. Read bytes x n (record { stage = stage; trace = u }) in
    let P : List ℕ → Type 0 = λ x. R x b.stage b.trace in
    let Q : Stage → Type 0 = λ stage. R [] stage b.trace in
    let S : Trace → Type 0 = λ u. R [] Ended u in
    stands_for bytes n t (subst S is.1 (subst Q is.0 (subst P none r)))

-- ---- for the calls

-- what was said was taken, or nothing that the line says can stand
pub taken_or : LinesSayOneThing → (b : Builder) (line : List ℕ) (s : Said) (taken : Bool) (new : Builder) → Says line s → Takes (step b s) taken new → TakesLine b line taken new
taken_or one b line s true new says takes = (s, says, takes)
taken_or one b line s false new says takes =
    λ u c says_u e. let same : u ≡ s = one line u s says_u says in let none : None ≡ Some c = sym takes ∙ ap (step b) (sym same) ∙ e in absurd cc

-- a line that says nothing can't stand
pub says_nothing : (b : Builder) (line : List ℕ) → ((s : Said) → Says line s → ⊥) → CantStand b line
says_nothing b line none = λ s c says e. none s says

pub only_trace : (b : Builder) (t u : Trace) → b ≡ record { stage = Ended; trace = t } → ended_trace b ≡ Some u → t ≡ u
only_trace b t u is e = some_is t u (sym (ap ended_trace is) ∙ e)

pub no_trace : (b : Builder) (t : Trace) → b ≡ record { stage = Ended; trace = t } → ended_trace b ≡ None → ⊥
no_trace b t is e = let bad : Some t ≡ None = sym (ap ended_trace is) ∙ e in absurd cc

pub is_nil : (xs : List ℕ) → (length xs == 0) ≡ true → xs ≡ []
is_nil [] e = refl
is_nil (x ∷ xs) e = absurd (omega (arith, eqb-true (length (x ∷ xs)) 0 e))
