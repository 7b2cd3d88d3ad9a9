-- An actor's commands are told in the order of their numbers.
use Rattle.std.proofs.Common.{◌≡◌, ℕ, zero, suc, ◌+◌, ◌≤◌, ◌<◌, List, [], ◌∷◌, ◌++◌, length, map, Bool, true, false, true≢false, Some, refl, sym, ap, ◌∙◌, subst, arith}
use Rattle.std.specs.Prelude.{if◌then◌else◌, ◌==◌, ◌&&◌, filter, fold, slice_get}
use Rattle.std.specs.List.{AllByRecursion}
use Rattle.std.proofs.lemmas.List.{map-append}
use Rattle.scen_words.specs.declared.declaration.Declaration.{Declaration}
use Rattle.scen_words.specs.declared.declaration.Declaration.TheVariants as declares
use Rattle.scen_text.specs.declared.scenario.Line.{Line}
use Rattle.scen_text.specs.declared.scenario.Phase.{Phase}
use Rattle.scen_text.specs.declared.scenario.Scenario.{Scenario}
use Rattle.scen_laid.specs.Laid.{IsLaid}
use Rattle.tap_sound.specs.Fresh.{AreNumbered, ArePhasesNumbered}
use Rattle.tap_sound.proofs.Kit.{some_same}
use Rattle.tap_sound.proofs.Scripts.{first_of_list}
use Rattle.tap_sound.proofs.Turned.{itself}
use Rattle.tap_trace.specs.declared.trace.AnswerLine.{AnswerLine}
use Rattle.tap_world.specs.declared.told.Said.{Said}
use Rattle.tap_world.specs.Setup.{Numbered, Setup, nothing_of, script_in, setup_of, with_declaration}
use Rattle.tap_world.specs.Steady.{IsTold, numbers}
use Rattle.tap_world.specs.World.{Actor, World, current}

-- ---- lists

pub all_on : {A : Type 0} (P Q : A → Type 0) → ((x : A) → P x → Q x) → (xs : List A) → AllByRecursion P xs
    → AllByRecursion Q xs
all_on P Q f [] h = tt
all_on P Q f (x ∷ xs) h = (f x h.0, all_on P Q f xs h.1)

pub all_at : {A : Type 0} (P : A → Type 0) (xs : List A) (i : ℕ) (x : A) → AllByRecursion P xs → slice_get xs i ≡ Some x
    → P x
all_at P [] i x h e = absurd (cc (e))
all_at P (y ∷ ys) zero x h e = subst P (some_same y x e) h.0
all_at P (y ∷ ys) (suc i) x h e = all_at P ys i x h.1 e

-- each number is smaller than all behind it
abbrev Rises : List ℕ → Type 0
Rises [] = Unit {0}
Rises (n ∷ ns) = AllByRecursion (λ m. n < m) ns × Rises ns

all_mid : {A : Type 0} (P : A → Type 0) (xs : List A) (y : A) (ys : List A) → AllByRecursion P (xs ++ y ∷ ys) → P y
all_mid P [] y ys h = h.0
all_mid P (x ∷ xs) y ys h = all_mid P xs y ys h.1

smaller : (xs : List ℕ) (y : ℕ) (ys : List ℕ) → Rises (xs ++ y ∷ ys) → AllByRecursion (λ m. m < y) xs
smaller [] y ys h = tt
smaller (x ∷ xs) y ys h = (all_mid (λ m. x < m) xs y ys h.0, smaller xs y ys h.1)

-- ---- the numbers of a script rise

abbrev numbered : Line → Numbered
numbered l = record { number = l.number; command = l.command }

abbrev of_actor : ℕ → List Line → List Line
of_actor actor ls = filter (λ (l : Line). l.actor == actor) ls

abbrev FromOn : ℕ → List ℕ → Type 0
FromOn n ns = AllByRecursion (λ m. n ≤ m) ns × Rises ns

script_rises : (actor n : ℕ) (ls : List Line) → AreNumbered n ls → FromOn n (numbers (map numbered (of_actor actor ls)))
script_rises actor n [] h = (tt, tt)
script_rises actor n (l ∷ ls) h = go (l.actor == actor) (script_rises actor (n + 1) ls h.1)
  where
    go : (b : Bool) → FromOn (n + 1) (numbers (map numbered (of_actor actor ls)))
        → FromOn n (numbers (map numbered (if b then l ∷ of_actor actor ls else of_actor actor ls)))
    go true r =
        let is = h.0 in (
          (
            omega (arith, is),
            all_on (λ m. n + 1 ≤ m) (λ m. n ≤ m) (λ m le. omega (arith, le)) (numbers (map numbered (of_actor actor ls))) r.0,
          ),
          (
            all_on (λ m. n + 1 ≤ m) (λ m. l.number < m) (λ m le. omega (arith, is, le))
                (numbers (map numbered (of_actor actor ls))) r.0,
            r.1,
          ),
        )
    go false r = (
      all_on (λ m. n + 1 ≤ m) (λ m. n ≤ m) (λ m le. omega (arith, le)) (numbers (map numbered (of_actor actor ls))) r.0,
      r.1,
    )

phase_rises : (n : ℕ) (ps : List Phase) (k : ℕ) (p : Phase) → ArePhasesNumbered n ps → slice_get ps k ≡ Some p
    → (actor : ℕ) → Rises (numbers (script_in p actor))
phase_rises n [] k p h e actor = absurd (cc (e))
phase_rises n (q ∷ qs) zero p h e actor =
    subst (λ (x : Phase). Rises (numbers (script_in x actor))) (some_same q p e) (script_rises actor n q.lines h.0).1
phase_rises n (q ∷ qs) (suc k) p h e actor = phase_rises (n + length q.lines) qs k p h.1 e actor

-- ---- the phases of a set-up are the scenario's

declared_phases : (d : Declaration) (s : Setup) → (with_declaration s d).phases ≡ s.phases
declared_phases (declares.File file capacity first) s = refl
declared_phases (declares.Region guest addr len) s = refl
declared_phases (declares.Vhost vhost guest) s = refl
declared_phases (declares.Prog program code) s = refl
declared_phases (declares.Flows name limit age) s = refl

folded_phases : (ds : List Declaration) (s : Setup) → (fold with_declaration s ds).phases ≡ s.phases
folded_phases [] s = refl
folded_phases (d ∷ ds) s = folded_phases ds (with_declaration s d) ∙ declared_phases d s

phases_are : (s : Scenario) → (setup_of s).phases ≡ s.phases
phases_are s = folded_phases s.declarations (nothing_of s)

-- ---- what was told

abbrev of_said : ℕ → ℕ → List Said → List Said
of_said phase actor said = filter (λ (y : Said). y.phase == phase && y.line.actor == actor) said

abbrev commands_of : List Said → List ℕ
commands_of said = map (λ (y : AnswerLine). y.command) (map (λ (y : Said). y.line) said)

-- what holds of all numbers that an actor was told in a phase holds of one that it was
told_at : (P : ℕ → Type 0) (phase actor : ℕ) (said : List Said) (k : ℕ) (x : Said)
    → AllByRecursion P (commands_of (of_said phase actor said)) → slice_get said k ≡ Some x → x.phase ≡ phase
    → x.line.actor ≡ actor → P x.line.command
told_at P phase actor [] k x all is p a = absurd (cc (is))
told_at P phase actor (z ∷ zs) k x all is p a =
    go (z.phase == phase && z.line.actor == actor) refl all k is (λ j h e. told_at P phase actor zs j x h e p a)
  where
    test : (x.phase == phase && x.line.actor == actor) ≡ true
    test =
        ap (λ (b : Bool). b && x.line.actor == actor) (subst (λ n. (x.phase == n) ≡ true) p (itself x.phase))
        ∙ subst (λ n. (x.line.actor == n) ≡ true) a (itself x.line.actor)

    go : (b : Bool) → (z.phase == phase && z.line.actor == actor) ≡ b
        → AllByRecursion P (commands_of (if b then z ∷ of_said phase actor zs else of_said phase actor zs))
        → (k : ℕ) → slice_get (z ∷ zs) k ≡ Some x
        → ((j : ℕ) → AllByRecursion P (commands_of (of_said phase actor zs)) → slice_get zs j ≡ Some x
        → P x.line.command)
        → P x.line.command
    go true is all zero e f = subst (λ (y : Said). P y.line.command) (some_same z x e) all.0
    go true is all (suc j) e f = f j all.1 e
    go false is all zero e f = absurd (true≢false
        (sym test ∙ ap (λ (y : Said). y.phase == phase && y.line.actor == actor) (sym (some_same z x e)) ∙ is))
    go false is all (suc j) e f = f j all e

-- a command that was told has a smaller number than its actor's command under way
pub told_before : (s : Scenario) (w : World) → IsLaid s → IsTold (setup_of s) w → (i : ℕ) (a : Actor) (now : Numbered)
    → slice_get w.actors i ≡ Some a → current a.script ≡ Some now → (k : ℕ) (x : Said) → slice_get w.said k ≡ Some x
    → x.phase ≡ w.phase → x.line.actor ≡ i → x.line.command < now.number
told_before s w laid told i a now found is_now k x is phase actor =
    let o = told.order i a found in
    let p : Phase = o.0 in
    let done : List Numbered = o.2.0 in
    let first = first_of_list a.script now is_now in
    let rises : Rises (numbers (script_in p i)) =
    phase_rises 0 (setup_of s).phases w.phase p (subst (ArePhasesNumbered 0) (sym (phases_are s)) laid.numbers) o.1 i in
    let split : numbers (script_in p i) ≡ numbers done ++ now.number ∷ numbers first.0 =
    ap numbers (o.2.1 ∙ ap (λ (l : List Numbered). done ++ l) first.1)
    ∙ map-append (λ (c : Numbered). c.number) done (now ∷ first.0) in
    let all = smaller (numbers done) now.number (numbers first.0) (subst Rises split rises) in
    told_at (λ m. m < now.number) w.phase i w.said k x
    (subst (AllByRecursion (λ m. m < now.number)) o.2.2 all) is phase actor

pub told_so_far : (s : Setup) (w : World) → IsTold s w → (k : ℕ) (x : Said) → slice_get w.said k ≡ Some x
    → x.phase ≤ w.phase
told_so_far s w told k x is = all_at (λ (y : Said). y.phase ≤ w.phase) w.said k x told.latest is
