-- This project's own: lists of operations, with one more behind them.
use Rattle.std.proofs.Common.{◌≡◌, ◌⊎◌, ℕ, zero, suc, ◌<◌, ◌≤◌, List, [], ◌∷◌, ◌++◌, length, map, take, Some, None, inl, inr, ⊎_elim, refl, ap, subst, arith}
use Rattle.std.specs.Prelude.{drop, slice_get}
use Rattle.std.specs.List.{AllByRecursion}
use Rattle.tap_steer.specs.Table.{Table}
use Rattle.tap_steer.specs.Rules.{refuse}
use Rattle.tap_steer.specs.After.{after, after_all}
use Rattle.tap_world.specs.declared.told.Published.{Published}
use Rattle.tap_world.specs.Steady.{PhasesRise}
use Rattle.tap_sound.proofs.Kit.{some_same}
use Rattle.tap_steady.proofs.Kit.{all_at}

-- ---- all of a list

pub all_both : {A : Type 0} (P R Q : A → Type 0) → ((x : A) → P x → R x → Q x) → (xs : List A) → AllByRecursion P xs
    → AllByRecursion R xs → AllByRecursion Q xs
all_both P R Q f [] h k = tt
all_both P R Q f (x ∷ xs) h k = (f x h.0 k.0, all_both P R Q f xs h.1 k.1)

-- ---- by place

-- what stands at a place of a list with one more, stood there before, or is the new one
pub at_more : {A : Type 0} (xs : List A) (new : A) (i : ℕ) (x : A) → slice_get (xs ++ new ∷ []) i ≡ Some x
    → ((slice_get xs i ≡ Some x) × (i < length xs)) ⊎ ((i ≡ length xs) × (new ≡ x))
at_more [] new zero x e = inr (refl, some_same new x e)
at_more [] new (suc i) x e = absurd (cc (e))
at_more (y ∷ ys) new zero x e = inl (e, omega arith)
at_more (y ∷ ys) new (suc i) x e = ⊎_elim
    (λ t. let h = t.1 in inl (t.0, omega (arith, h)))
    (λ t. inr (ap suc t.0, t.1))
    (at_more ys new i x e)

-- what stands first behind a list
pub at_end : {A : Type 0} (xs ys : List A) → slice_get (xs ++ ys) (length xs) ≡ slice_get ys 0
at_end [] ys = refl
at_end (x ∷ xs) ys = at_end xs ys

pub shorter : {A : Type 0} (xs : List A) → length (drop 1 xs) ≤ length xs
shorter [] = omega arith
shorter (x ∷ xs) = omega arith

-- ---- operations

-- each operation is lawful in the table that those before it make of this one
abbrev pub EachLawful : Table → List Published → Type 0
EachLawful t ops =
    (i : ℕ) (p : Published) → slice_get ops i ≡ Some p
    → refuse (after_all t (map (λ (q : Published). q.op) (take i ops))) p.op ≡ None

pub lawful_more : (t : Table) (ops : List Published) (new : Published) → EachLawful t ops
    → refuse (after_all t (map (λ (q : Published). q.op) ops)) new.op ≡ None → EachLawful t (ops ++ new ∷ [])
lawful_more t [] new h is zero p e = subst (λ (q : Published). refuse t q.op ≡ None) (some_same new p e) is
lawful_more t [] new h is (suc i) p e = absurd (cc (e))
lawful_more t (y ∷ ys) new h is zero p e = h zero p e
lawful_more t (y ∷ ys) new h is (suc i) p e = lawful_more (after t y.op) ys new (λ j q k. h (suc j) q k) is i p e

pub rise_more : (ops : List Published) (new : Published) → PhasesRise ops
    → AllByRecursion (λ (p : Published). p.phase ≤ new.phase) ops
    → PhasesRise (ops ++ new ∷ [])
rise_more ops new rise latest i j p q le at_p at_q = ⊎_elim
    (λ old_q. ⊎_elim
    (λ old_p. rise i j p q le old_p.0 old_q.0)
    (λ new_p. let a = new_p.0 in let b = old_q.1 in absurd (omega (arith, a, b, le)))
    (at_more ops new i p at_p))
    (λ new_q. subst (λ (y : Published). p.phase ≤ y.phase) new_q.1 (⊎_elim
    (λ old_p. all_at (λ (y : Published). y.phase ≤ new.phase) ops i p latest old_p.0)
    (λ new_p. let a = ap (λ (y : Published). y.phase) new_p.1 in omega (arith, a))
    (at_more ops new i p at_p)))
    (at_more ops new j q at_q)
