-- What was told to an actor in a phase, with one answer more; and the scripts of a phase's actors.
use Rattle.std.proofs.Common.{◌≡◌, ◌≢◌, ◌⊎◌, ℕ, zero, suc, ◌<◌, ◌≤◌, List, [], ◌∷◌, ◌++◌, length, map, Bool, true, false, None, inl, inr, ⊎_elim, refl, ap, ◌∙◌, subst, arith}
use Rattle.std.specs.Prelude.{if◌then◌else◌, ◌==◌, ◌&&◌, slice_get, filter}
use Rattle.std.specs.List.{AllByRecursion}
use Rattle.std.proofs.lemmas.List.{map-append}
use Rattle.std.proofs.lemmas.List.Elements.{filter-append}
use Rattle.scen_text.specs.declared.scenario.Line.{Line}
use Rattle.tap_trace.specs.declared.trace.AnswerLine.{AnswerLine}
use Rattle.tap_world.specs.Project.{answers_of}
use Rattle.tap_world.specs.Setup.{Numbered, Setup}
use Rattle.tap_world.specs.declared.told.Said.{Said}
use Rattle.scen_laid.specs.Phases.{IsLine}
use Rattle.tap_sound.proofs.Turned.{itself, others}

-- ---- lists

pub none_there : {A : Type 0} (xs : List A) (i : ℕ) → slice_get xs i ≡ None → length xs ≤ i
none_there [] i e = omega arith
none_there (x ∷ xs) zero e = absurd (cc (e))
none_there (x ∷ xs) (suc i) e = let h = none_there xs i e in omega (arith, h)

pub below_or_same : (a b : ℕ) → a < suc b → (a < b) ⊎ (a ≡ b)
below_or_same zero zero h = inr refl
below_or_same zero (suc b) h = inl (omega arith)
below_or_same (suc a) zero h = absurd (omega (arith, h))
below_or_same (suc a) (suc b) h =
    let k : a < suc b = omega (arith, h) in
    ⊎_elim (λ l. inl (omega (arith, l))) (λ e. inr (ap suc e)) (below_or_same a b k)

-- ---- what was told

abbrev pub tells : ℕ → ℕ → List Said → List ℕ
tells phase actor said = map (λ (x : AnswerLine). x.command) (answers_of phase actor said)

-- what one answer tells
abbrev pub told_by : ℕ → ℕ → Said → List ℕ
told_by phase actor x = if x.phase == phase && x.line.actor == actor then x.line.command ∷ [] else []

one_told : (phase actor : ℕ) (x : Said) → tells phase actor (x ∷ []) ≡ told_by phase actor x
one_told phase actor x = go (x.phase == phase && x.line.actor == actor)
  where
    go : (b : Bool) → map (λ (y : AnswerLine). y.command) (map (λ (y : Said). y.line) (if b then x ∷ [] else [])) ≡ (if b then x.line.command ∷ [] else [])
    go true = refl
    go false = refl

pub told_more : (phase actor : ℕ) (said : List Said) (x : Said) → tells phase actor (said ++ x ∷ []) ≡ tells phase actor said ++ told_by phase actor x
told_more phase actor said x =
    let test : Said → Bool = λ y. y.phase == phase && y.line.actor == actor in
    ap (λ q. map (λ (y : AnswerLine). y.command) (map (λ (y : Said). y.line) q)) (filter-append test said (x ∷ []))
    ∙ ap (λ q. map (λ (y : AnswerLine). y.command) q) (map-append (λ (y : Said). y.line) (filter test said) (filter test (x ∷ [])))
    ∙ map-append (λ (y : AnswerLine). y.command) (map (λ (y : Said). y.line) (filter test said)) (map (λ (y : Said). y.line) (filter test (x ∷ [])))
    ∙ ap (λ q. tells phase actor said ++ q) (one_told phase actor x)

pub told_mine : (phase actor : ℕ) (x : Said) → x.phase ≡ phase → x.line.actor ≡ actor → told_by phase actor x ≡ x.line.command ∷ []
told_mine phase actor x p a =
    ap (λ (b : Bool). if b && x.line.actor == actor then x.line.command ∷ [] else []) (subst (λ q. (x.phase == q) ≡ true) p (itself x.phase))
    ∙ ap (λ (b : Bool). if b then x.line.command ∷ [] else []) (subst (λ q. (x.line.actor == q) ≡ true) a (itself x.line.actor))

and_false : (b : Bool) → (b && false) ≡ false
and_false true = refl
and_false false = refl

pub told_other : (phase actor : ℕ) (x : Said) → x.line.actor ≢ actor → told_by phase actor x ≡ []
told_other phase actor x a =
    ap (λ (b : Bool). if x.phase == phase && b then x.line.command ∷ [] else []) (others x.line.actor actor a)
    ∙ ap (λ (b : Bool). if b then x.line.command ∷ [] else []) (and_false (x.phase == phase))

pub told_before : (phase actor : ℕ) (x : Said) → x.phase ≢ phase → told_by phase actor x ≡ []
told_before phase actor x p = ap (λ (b : Bool). if b && x.line.actor == actor then x.line.command ∷ [] else []) (others x.phase phase p)

-- of a phase that is still to come nothing is told
pub none_told : (phase actor : ℕ) (said : List Said) → AllByRecursion (λ (x : Said). x.phase < phase) said → tells phase actor said ≡ []
none_told phase actor [] h = refl
none_told phase actor (x ∷ xs) h =
    let away : x.phase ≢ phase = λ e. let less : x.phase < phase = h.0 in omega (arith, e, less) in
    cons_told phase actor x xs ∙ ap (λ q. q ++ tells phase actor xs) (told_before phase actor x away) ∙ none_told phase actor xs h.1
  where
    cons_told : (p a : ℕ) (y : Said) (ys : List Said) → tells p a (y ∷ ys) ≡ told_by p a y ++ tells p a ys
    cons_told p a y ys = go (y.phase == p && y.line.actor == a)
      where
        go : (b : Bool) → map (λ (z : AnswerLine). z.command) (map (λ (z : Said). z.line) (if b then y ∷ filter (λ (z : Said). z.phase == p && z.line.actor == a) ys else filter (λ (z : Said). z.phase == p && z.line.actor == a) ys))
            ≡ (if b then y.line.command ∷ [] else []) ++ tells p a ys
        go true = refl
        go false = refl

-- ---- scripts

abbrev numbered : Line → Numbered
numbered l = record { number = l.number; command = l.command }

-- an actor that isn't one of a phase's has no script in it
pub no_script : (s : Setup) (actors actor : ℕ) (ls : List Line) → AllByRecursion (IsLine s actors) ls → actors ≤ actor
    → map numbered (filter (λ (l : Line). l.actor == actor) ls) ≡ []
no_script s actors actor [] h e = refl
no_script s actors actor (l ∷ ls) h e =
    let away : l.actor ≢ actor = λ q. let less = h.0.actor in omega (arith, q, e, less) in
    ap (λ (b : Bool). map numbered
    (if b then l ∷ filter (λ (x : Line). x.actor == actor) ls else filter (λ (x : Line). x.actor == actor) ls)) (others l.actor actor away)
    ∙ no_script s actors actor ls h.1 e
