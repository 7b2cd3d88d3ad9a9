-- Queue sizes.
use lib.Count.{ones}
use Rattle.std.proofs.Common.{◌≡◌, ℕ, ◌+◌, ◌-◌, ◌*◌, ◌^◌, ◌<◌, ◌≤◌, inl, inr, refl, arith, subst}
use Rattle.std.proofs.lemmas.Bool.{cases_lt}
use Rattle.std.proofs.lemmas.Nat.{ones_cat, zero_from_ones}

-- a number of sixteen digits with the highest one set, and no other
one_of_sixteen : (r : ℕ) → r < 2 ^ 15 → ones (1 * 2 ^ 15 + r) ≡ 1 → r ≡ 0
unfolding ones
one_of_sixteen r h e =
    let cat = ones_cat 15 1 r h in
    let one : ones 1 ≡ 1 = refl in
    let none : ones r ≡ 0 = omega arith in
    zero_from_ones r none

pub size_below : (n : ℕ) → ones n ≡ 1 → n < 65536 → n ≤ 32768
size_below n e h =
    elim (cases_lt n 32768) [
      | inl below ↦ omega arith
      | inr above ↦
          let same : n ≡ 1 * 2 ^ 15 + (n - 32768) = omega arith in
          let small : n - 32768 < 2 ^ 15 = omega arith in
          let none = one_of_sixteen (n - 32768) small (subst (λ (k : ℕ). ones k ≡ 1) same e) in
          omega arith
    ]
