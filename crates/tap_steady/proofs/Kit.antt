-- This project's own: what several of the proofs here need of lists, of things by number, of phases and of an effect.
use Rattle.std.proofs.Common.{◌≡◌, ◌≢◌, ℕ, zero, suc, ◌+◌, ◌<◌, List, [], ◌∷◌, ◌++◌, length, Option, Some, refl, sym, ap, ◌∙◌, subst, arith}
use Rattle.std.specs.Prelude.{fold, slice_get}
use Rattle.std.specs.List.{AllByRecursion}
use Rattle.scen_words.specs.declared.declaration.Declaration.{Declaration}
use Rattle.scen_words.specs.declared.declaration.Declaration.TheVariants as declares
use Rattle.scen_text.specs.declared.scenario.Phase.{Phase}
use Rattle.scen_text.specs.declared.scenario.Scenario.{Scenario}
use Rattle.tap_world.specs.ByNumber.{at, with_at}
use Rattle.tap_world.specs.Setup.{Setup, nothing_of, setup_of, with_declaration}
use Rattle.tap_world.specs.World.Doing.{Begun}
use Rattle.tap_world.specs.World.{Actor, World}
use Rattle.tap_world.specs.Effect.{Effect, files_after, guests_after, with_effect}
use Rattle.tap_world.specs.Runs.{actors_from}
use Rattle.tap_sound.proofs.Kit.{some_same, then_some}

-- ---- all of a list: with something else of each, at a place, and with one more behind

pub all_on : {A : Type 0} (P Q : A → Type 0) → ((x : A) → P x → Q x) → (xs : List A) → AllByRecursion P xs
    → AllByRecursion Q xs
all_on P Q f [] h = tt
all_on P Q f (x ∷ xs) h = (f x h.0, all_on P Q f xs h.1)

pub all_at : {A : Type 0} (P : A → Type 0) (xs : List A) (i : ℕ) (x : A) → AllByRecursion P xs
    → slice_get xs i ≡ Some x → P x
all_at P [] i x h e = absurd (cc (e))
all_at P (y ∷ ys) zero x h e = subst P (some_same y x e) h.0
all_at P (y ∷ ys) (suc i) x h e = all_at P ys i x h.1 e

pub all_more : {A : Type 0} (P : A → Type 0) (xs : List A) (x : A) → AllByRecursion P xs → P x
    → AllByRecursion P (xs ++ x ∷ [])
all_more P [] x h k = (k, tt)
all_more P (y ∷ ys) x h k = (h.0, all_more P ys x h.1 k)

-- ---- places in a list: they are below its length, and in two lists they are in the front or behind it

pub at_below : {A : Type 0} (xs : List A) (i : ℕ) (x : A) → slice_get xs i ≡ Some x → i < length xs
at_below [] i x e = absurd (cc (e))
at_below (y ∷ ys) zero x e = omega arith
at_below (y ∷ ys) (suc i) x e = let h = at_below ys i x e in omega (arith, h)

pub at_plus : {A : Type 0} (xs ys : List A) (k m : ℕ) → m ≡ length xs + k → slice_get (xs ++ ys) m ≡ slice_get ys k
at_plus [] ys k m e = ap (slice_get ys) (omega (arith, e))
at_plus (x ∷ xs) ys k zero e = absurd (omega (arith, e))
at_plus (x ∷ xs) ys k (suc m) e = at_plus xs ys k m (omega (arith, e))

pub at_front : {A : Type 0} (xs ys : List A) (i : ℕ) (x : A) → slice_get xs i ≡ Some x → slice_get (xs ++ ys) i ≡ Some x
at_front [] ys i x e = absurd (cc (e))
at_front (y ∷ xs) ys zero x e = e
at_front (y ∷ xs) ys (suc i) x e = at_front xs ys i x e

-- ---- things by number, with another in a place: there it is the new one, elsewhere what it was

pub with_at_here : {A : Type 0} (n : ℕ) (new x : A) (xs : List (Option A)) → at xs n ≡ Some x
    → at (with_at n new xs) n ≡ Some new
with_at_here n new x [] e = absurd (cc (e))
with_at_here zero new x (y ∷ ys) e = refl
with_at_here (suc n) new x (y ∷ ys) e = with_at_here n new x ys e

pub with_at_else : {A : Type 0} (n : ℕ) (new : A) (xs : List (Option A)) (k : ℕ) → n ≢ k
    → at (with_at n new xs) k ≡ at xs k
with_at_else n new [] k ne = refl
with_at_else zero new (y ∷ ys) zero ne = absurd (ne refl)
with_at_else zero new (y ∷ ys) (suc k) ne = refl
with_at_else (suc n) new (y ∷ ys) zero ne = refl
with_at_else (suc n) new (y ∷ ys) (suc k) ne = with_at_else n new ys k (λ h. ne (ap suc h))

-- ---- the phases of a set-up are the scenario's

declared_phases : (d : Declaration) (s : Setup) → (with_declaration s d).phases ≡ s.phases
declared_phases (declares.File file capacity first) s = refl
declared_phases (declares.Region guest addr len) s = refl
declared_phases (declares.Vhost vhost guest) s = refl
declared_phases (declares.Prog program code) s = refl
declared_phases (declares.Flows name limit age) s = refl

folded_phases : (ds : List Declaration) (s : Setup) → (fold with_declaration s ds).phases ≡ s.phases
folded_phases [] s = refl
folded_phases (d ∷ ds) s = folded_phases ds (with_declaration s d) ∙ declared_phases d s

pub phases_are : (s : Scenario) → (setup_of s).phases ≡ s.phases
phases_are s = folded_phases s.declarations (nothing_of s)

-- ---- an effect leaves the phase, and a phase's actors begin with nothing done

pub effect_phase : (r : Effect) (actor : ℕ) (a : Actor) (n : ℕ) (w v : World) → with_effect r actor a n w ≡ Some v
    → v.phase ≡ w.phase
effect_phase r actor a n w v e =
    let f = then_some (files_after r.files w.files) _ v e in
    let g = then_some (guests_after actor n r.guests w.guests) _ v f.2 in
    ap (λ (q : World). q.phase) (sym (some_same _ v g.2))

pub begun_all : (p : Phase) (seen from n i : ℕ) (a : Actor) → slice_get (actors_from p seen from n) i ≡ Some a
    → a.doing ≡ Begun
begun_all p seen from zero i a e = absurd (cc (e))
begun_all p seen from (suc n) zero a e = ap (λ (q : Actor). q.doing) (sym (some_same _ a e))
begun_all p seen from (suc n) (suc i) a e = begun_all p seen (from + 1) n i a e
