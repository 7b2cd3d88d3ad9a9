-- The remainder by a power of two, as a mask.
use Rattle.std.proofs.Common.{◌≡◌, ℕ, zero, suc, ◌+◌, ◌-◌, ◌*◌, ◌/◌, ◌%◌, ◌^◌, ◌≤◌, ◌⊎◌, inl, inr, true, bit_and, refl, sym, ap, ◌∙◌, arith}
use Rattle.std.specs.Int.{is_power_of_two}
use Rattle.std.specs.Int.Count.{ones, ones_step}
use Rattle.std.proofs.lemmas.Nat.{and_mask, ones_le_self, zero_from_ones}
use Rattle.std.proofs.lemmas.Bool.Decides.{nat_tests}
use Rattle.std.proofs.lemmas.Grind.{common_steps}

even_or_odd : (n : ℕ) → (n % 2 ≡ 0) ⊎ (n % 2 ≡ 1)
even_or_odd n = grind arith

-- a number with one bit set is a power of two
power : (most n : ℕ) → n ≤ most → ones n ≡ 1 → (k : ℕ) × (n ≡ 2 ^ k)
power zero n le one = let some = ones_le_self n in absurd (omega arith)
power (suc most) n le one =
    let step = ones_step n in
    let some = ones_le_self n in
    elim (even_or_odd n) [
      | inl even ↦
          let half = power most (n / 2) (omega arith) (omega arith) in
          let is = half.1 in
          let twice : 2 ^ (half.0 + 1) ≡ 2 * 2 ^ half.0 = grind (arith, common_steps) in
          (half.0 + 1, omega arith)
      | inr odd ↦
          let none = zero_from_ones (n / 2) (omega arith) in
          let one_is : 2 ^ 0 ≡ 1 = refl in
          (0, omega arith)
    ]

-- a mask gives the remainder
pub mask_of_power : (n q : ℕ) → is_power_of_two q ≡ true → bit_and n (q - 1) ≡ n % q
mask_of_power n q h =
    let one : ones q ≡ 1 = grind (arith, nat_tests) in
    let p = power q q (omega arith) one in
    ap (λ m. bit_and n (m - 1)) p.1 ∙ and_mask n p.0 ∙ ap (λ m. n % m) (sym p.1)
