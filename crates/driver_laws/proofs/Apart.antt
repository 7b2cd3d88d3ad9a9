-- Descriptors that are kept once.
use Rattle.std.proofs.Common.{◌≡◌, ℕ, zero, suc, ◌+◌, ◌<◌, ◌≤◌, nat_lt, List, [], ◌∷◌, length, take, refl, arith}
use Rattle.std.specs.Prelude.{if◌then◌else◌}
use Rattle.std.proofs.lemmas.Bool.Decides.{nat_tests}
use Rattle.tap_ground.specs.Lists.{times as times_in}
use Rattle.driver_laws.specs.Offers.{AreApart}

-- no number stands more often than once, and each is below a bound
abbrev pub StandOnce : ℕ → List ℕ → Type 0
StandOnce num xs = (d : ℕ) → times_in d xs ≤ (if nat_lt d num then 1 else 0)

times_in_itself : (d : ℕ) (ds : List ℕ) → times_in d (d ∷ ds) ≡ 1 + times_in d ds
times_in_itself d ds = grind (arith, nat_tests)

below_one : (d num n : ℕ) → 1 + n ≤ (if nat_lt d num then 1 else 0) → (d < num) × (n ≡ 0)
below_one d num n h = (grind (arith, nat_tests), grind (arith, nat_tests))

pub apart_once : (num : ℕ) (xs : List ℕ) → StandOnce num xs → AreApart num xs
apart_once num [] h = tt
apart_once num (d ∷ ds) h =
    let here : 1 + times_in d ds ≤ (if nat_lt d num then 1 else 0) = rw (← times_in_itself d ds) (h d) in
    let both = below_one d num (times_in d ds) here in
    (both.0, both.1, apart_once num ds (λ e. let there : times_in e (d ∷ ds) ≤ (if nat_lt e num then 1 else 0) = h e in omega arith))

pub times_in_front : (d n : ℕ) (xs : List ℕ) → times_in d (take n xs) ≤ times_in d xs
times_in_front d zero xs = omega arith
times_in_front d (suc n) [] = omega arith
times_in_front d (suc n) (x ∷ xs) = let rest = times_in_front d n xs in omega arith

pub front_once : (num n : ℕ) (xs : List ℕ) → StandOnce num xs → StandOnce num (take n xs)
front_once num n xs h = λ d. let front = times_in_front d n xs in let all = h d in omega arith

-- There are no more of them than numbers below the bound.

-- how many places of a list have a number below a bound
times_below : ℕ → List ℕ → ℕ
times_below zero xs = 0
times_below (suc k) xs = times_in k xs + times_below k xs

below_none : (k : ℕ) → times_below k [] ≡ 0
unfolding times_below
below_none zero = refl
below_none (suc k) = let rest = below_none k in omega arith

below_more : (k x : ℕ) (xs : List ℕ) → times_below k (x ∷ xs) ≡ (if nat_lt x k then 1 else 0) + times_below k xs
unfolding times_below
below_more zero x xs = grind (arith, nat_tests)
below_more (suc k) x xs = let rest = below_more k x xs in grind (arith, nat_tests)

below_all : (num : ℕ) (xs : List ℕ) → AreApart num xs → times_below num xs ≡ length xs
below_all num [] h = below_none num
below_all num (x ∷ xs) h =
    let rest = below_all num xs h.2 in
    let more = below_more num x xs in
    let less : x < num = h.0 in
    grind (arith, nat_tests)

below_few : (num k : ℕ) (xs : List ℕ) → StandOnce num xs → times_below k xs ≤ k
unfolding times_below
below_few num zero xs h = omega arith
below_few num (suc k) xs h =
    let rest = below_few num k xs h in
    let here : times_in k xs ≤ (if nat_lt k num then 1 else 0) = h k in
    grind (arith, nat_tests)

pub few_apart : (num : ℕ) (xs : List ℕ) → StandOnce num xs → length xs ≤ num
few_apart num xs h =
    let all = below_all num xs (apart_once num xs h) in
    let few = below_few num num xs h in
    omega arith
