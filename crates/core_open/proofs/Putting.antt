-- Things that are put at numbers.
use Rattle.std.proofs.Common.{◌≡◌, ℕ, zero, suc, ◌+◌, ◌-◌, ◌<◌, ◌≤◌, List, [], ◌∷◌, ◌++◌, get_or, length, replicate, set, append_assoc, Option, Some, None, refl, ap, ◌∙◌, arith}
use Rattle.std.proofs.lemmas.List.{append-nil, replicate_more}
use Rattle.tap_world.specs.ByNumber.{at, put_at}

-- what has a number that has a place, and one that has none
pub at_place : {A : Type 0} (xs : List (Option A)) (n : ℕ) (d : Option A) → n < length xs → get_or xs n d ≡ at xs n
at_place [] n d h = absurd (omega (arith, h))
at_place (x ∷ xs) zero d h = refl
at_place (x ∷ xs) (suc n) d h = at_place xs n d (omega (arith, h))

pub at_past : {A : Type 0} (xs : List (Option A)) (n : ℕ) → length xs ≤ n → None ≡ at xs n
at_past [] n h = refl
at_past (x ∷ xs) zero h = absurd (omega (arith, h))
at_past (x ∷ xs) (suc n) h = at_past xs n (omega (arith, h))

-- it is the same where what had the number went before
pub put_again : {A : Type 0} (xs : List (Option A)) (n : ℕ) (o : Option A) (new : A) → put_at n new (set xs n o) ≡ put_at n new xs
put_again [] n o new = refl
put_again (x ∷ xs) zero o new = refl
put_again (x ∷ xs) (suc n) o new = ap (λ (ys : List (Option _)). x ∷ ys) (put_again xs n o new)

-- put into a place that was made for it
put_padded : {A : Type 0} (xs : List (Option A)) (k n : ℕ) (new : A) → k ≡ n + 1 - length xs
    → set (xs ++ replicate k None) n (Some new) ≡ put_at n new xs
put_padded [] zero n new h = absurd (omega (arith, h))
put_padded [] (suc zero) zero new h = refl
put_padded [] (suc (suc k)) zero new h = absurd (omega (arith, h))
put_padded [] (suc k) (suc n) new h = ap (λ (ys : List (Option _)). None ∷ ys) (put_padded [] k n new (omega (arith, h)))
put_padded (x ∷ xs) zero zero new h = ap (λ (ys : List (Option _)). Some new ∷ ys) (append-nil xs)
put_padded (x ∷ xs) (suc k) zero new h = absurd (omega (arith, h))
put_padded (x ∷ xs) k (suc n) new h = ap (λ (ys : List (Option _)). x ∷ ys) (put_padded xs k n new (omega (arith, h)))

pub put_made : {A : Type 0} (xs ys : List (Option A)) (n : ℕ) (new : A) → ys ≡ xs ++ replicate (n + 1 - length xs) None
    → set ys n (Some new) ≡ put_at n new xs
put_made xs ys n new h = ap (λ (zs : List (Option _)). set zs n (Some new)) h ∙ put_padded xs (n + 1 - length xs) n new refl

-- one place more was made
pub made_more : {A : Type 0} (xs ys zs : List (Option A)) (n : ℕ) → ys ≡ xs ++ replicate (n - length xs) None → length xs ≤ n
    → zs ≡ ys ++ None ∷ [] → zs ≡ xs ++ replicate (n + 1 - length xs) None
made_more xs ys zs n so_far from new =
    new ∙ ap (λ (ts : List (Option _)). ts ++ None ∷ []) so_far ∙ append_assoc xs (replicate (n - length xs) None) (None ∷ [])
    ∙ ap (λ (ts : List (Option _)). xs ++ ts) (replicate_more (n - length xs) None)
    ∙ ap (λ (m : ℕ). xs ++ replicate m None) (omega (arith, from))
