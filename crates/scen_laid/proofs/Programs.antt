-- Programs have numbers of their own up to 63, and so there are at most 64.
use Rattle.std.proofs.Common.{◌≡◌, ℕ, zero, suc, ◌+◌, ◌<◌, ◌≤◌, Bool, true, false, cond, eqb, List, [], ◌∷◌, ◌++◌, length, map, refl, ap, subst, ◌∙◌, eq-eqb, eqb-true, inl, inr, arith}
use Rattle.std.specs.List.{AllByRecursion, list_any}
use Rattle.std.proofs.lemmas.Bool.{cases_eq}
use Rattle.tap_ground.specs.Lists.{times}
use Rattle.scen_laid.proofs.Histories.{or_false}
use Rattle.scen_laid.proofs.Placed.{all_more}

-- the numbers of programs, in their order
abbrev numbers_of : List (ℕ × List ℕ) → List ℕ
numbers_of ps = map (λ (p : ℕ × List ℕ). p.0) ps

-- no two programs have the same number, and each number is at most 63
pub record AreNumberedOnce (ps : List (ℕ × List ℕ)) : Type 0 where
  pub once : (n : ℕ) → times n (numbers_of ps) ≤ 1
  pub few : AllByRecursion (λ (p : ℕ × List ℕ). p.0 ≤ 63) ps

pub none_numbered : AreNumberedOnce []
none_numbered = record { once = λ n. omega arith; few = tt }

-- ---- one program more

times_more : (n : ℕ) (ps : List (ℕ × List ℕ)) (p : ℕ × List ℕ) → times n (numbers_of (ps ++ p ∷ [])) ≡ times n (numbers_of ps) + cond (eqb p.0 n) 1 0
times_more n [] p = omega arith
times_more n (q ∷ ps) p = let h = times_more n ps p in omega (arith, h)

times_none : (n : ℕ) (ps : List (ℕ × List ℕ)) → list_any (λ (p : ℕ × List ℕ). eqb p.0 n) ps ≡ false → times n (numbers_of ps) ≡ 0
times_none n [] e = refl
times_none n (q ∷ ps) e =
    let o = or_false (eqb q.0 n) (list_any (λ (p : ℕ × List ℕ). eqb p.0 n) ps) e in
    let here : times n (numbers_of (q ∷ ps)) ≡ 0 + times n (numbers_of ps) = ap (λ (b : Bool). cond b 1 0 + times n (numbers_of ps)) o.0 in
    let rest = times_none n ps o.1 in
    omega (arith, here, rest)

once_more : (ps : List (ℕ × List ℕ)) (program : ℕ) (code : List ℕ) → list_any (λ (p : ℕ × List ℕ). eqb p.0 program) ps ≡ false → ((n : ℕ) → times n (numbers_of ps) ≤ 1)
    → (n : ℕ) → times n (numbers_of (ps ++ (program, code) ∷ [])) ≤ 1
once_more ps program code new once n = go (eqb program n) refl
  where
    more : (b : Bool) → eqb program n ≡ b → times n (numbers_of (ps ++ (program, code) ∷ [])) ≡ times n (numbers_of ps) + cond b 1 0
    more b is = times_more n ps (program, code) ∙ ap (λ (x : Bool). times n (numbers_of ps) + cond x 1 0) is

    go : (b : Bool) → eqb program n ≡ b → times n (numbers_of (ps ++ (program, code) ∷ [])) ≤ 1
    go true is =
        let none : times n (numbers_of ps) ≡ 0 = subst (λ (m : ℕ). times m (numbers_of ps) ≡ 0) (eqb-true program n is) (times_none program ps new) in
        let count = more true is in
        omega (arith, none, count)
    go false is = let old = once n in let count = more false is in omega (arith, old, count)

-- a program whose number is new
pub numbered_more : (ps : List (ℕ × List ℕ)) (program : ℕ) (code : List ℕ) → AreNumberedOnce ps → program ≤ 63 → list_any (λ (p : ℕ × List ℕ). eqb p.0 program) ps ≡ false
    → AreNumberedOnce (ps ++ (program, code) ∷ [])
numbered_more ps program code h few new = record {
  once = once_more ps program code new h.once;
  few = all_more (λ (p : ℕ × List ℕ). p.0 ≤ 63) ps (program, code) h.few few;
}

-- ---- how many there are

-- how many programs have a number below n
below : ℕ → List (ℕ × List ℕ) → ℕ
below zero ps = 0
below (suc n) ps = times n (numbers_of ps) + below n ps

below_once : (n : ℕ) (ps : List (ℕ × List ℕ)) → ((k : ℕ) → times k (numbers_of ps) ≤ 1) → below n ps ≤ n
unfolding below
below_once zero ps once = omega arith
below_once (suc n) ps once = let here = once n in let rest = below_once n ps once in omega (arith, here, rest)

times_first : (n : ℕ) (p : ℕ × List ℕ) (ps : List (ℕ × List ℕ)) → p.0 ≡ n → times n (numbers_of (p ∷ ps)) ≡ 1 + times n (numbers_of ps)
times_first n p ps same = ap (λ (b : Bool). cond b 1 0 + times n (numbers_of ps)) (eq-eqb p.0 n same)

times_rest : (n : ℕ) (p : ℕ × List ℕ) (ps : List (ℕ × List ℕ)) → times n (numbers_of ps) ≤ times n (numbers_of (p ∷ ps))
times_rest n p ps = omega arith

below_rest : (n : ℕ) (p : ℕ × List ℕ) (ps : List (ℕ × List ℕ)) → below n ps ≤ below n (p ∷ ps)
unfolding below
below_rest zero p ps = omega arith
below_rest (suc n) p ps = let here = times_rest n p ps in let rest = below_rest n p ps in omega (arith, here, rest)

below_first : (n : ℕ) (p : ℕ × List ℕ) (ps : List (ℕ × List ℕ)) → p.0 < n → suc (below n ps) ≤ below n (p ∷ ps)
unfolding below
below_first zero p ps less = absurd (omega (arith, less))
below_first (suc n) p ps less = elim (cases_eq p.0 n) [
  | inl same ↦ let here = times_first n p ps same in let rest = below_rest n p ps in omega (arith, here, rest)
  | inr apart ↦ let here = times_rest n p ps in let rest = below_first n p ps (omega (arith, less, apart)) in omega (arith, here, rest)
]

all_below : (ps : List (ℕ × List ℕ)) → AllByRecursion (λ (p : ℕ × List ℕ). p.0 ≤ 63) ps → length ps ≤ below 64 ps
all_below [] h = omega arith
all_below (p ∷ ps) h =
    let low = h.0 in
    let here = below_first 64 p ps (omega (arith, low)) in
    let rest = all_below ps h.1 in
    omega (arith, here, rest)

-- numbers of their own up to 63 are at most 64
pub few_numbered : (ps : List (ℕ × List ℕ)) → AreNumberedOnce ps → length ps ≤ 64
few_numbered ps h = let all = all_below ps h.few in let each = below_once 64 ps h.once in omega (arith, all, each)
