-- What is left of a list behind its front.
use Rattle.std.proofs.Common.{◌≡◌, ℕ, zero, suc, ◌+◌, ◌<◌, List, [], ◌∷◌, length, drop, Some, ap, ◌∙◌, ⊎_elim, arith}
use Rattle.std.specs.Prelude.{slice_get}
use Rattle.std.proofs.lemmas.Option.{slice_get_cases}
use Rattle.tap_sound.proofs.Kit.{some_same}

behind : {A : Type 0} (xs : List A) (i : ℕ) (x : A) → slice_get xs i ≡ Some x → drop i xs ≡ x ∷ drop (suc i) xs
behind [] i x h = absurd (cc (h))
behind (y ∷ ys) zero x h = ap (λ z. z ∷ ys) (some_same y x h)
behind (y ∷ ys) (suc i) x h = behind ys i x h

-- it begins with the one at that place
pub left_at : {A : Type 0} (xs : List A) (i : ℕ) (x : A) → slice_get xs i ≡ Some x → drop i xs ≡ x ∷ drop (i + 1) xs
left_at xs i x h = let more : suc i ≡ i + 1 = omega arith in behind xs i x h ∙ ap (λ k. x ∷ drop k xs) more

-- there is one at each place of a list
pub one_at : {A : Type 0} (xs : List A) (i : ℕ) → i < length xs → (x : A) × (slice_get xs i ≡ Some x)
one_at xs i h = ⊎_elim (λ p. (p.0, p.2)) (λ p. absurd (omega (arith, h, p.0))) (slice_get_cases xs i).1
