-- Things that are put at numbers.
use Rattle.std.proofs.Common.{◌≡◌, ℕ, zero, suc, ◌≤◌, max, Bool, true, false, cond, eqb, List, [], ◌∷◌, ◌++◌, length, Option, Some, is_some, refl, sym, ap, subst, ◌∙◌, eq-eqb, eqb-true, true≢false, arith}
use Rattle.std.specs.List.{AllByRecursion}
use Rattle.tap_world.specs.ByNumber.{at, put_at}

pub some_is : {A : Type 0} (x y : A) → Some x ≡ Some y → x ≡ y
some_is x y e = cc

at_same : {A : Type 0} (n : ℕ) (x : A) (xs : List (Option A)) → at (put_at n x xs) n ≡ Some x
at_same zero x [] = refl
at_same zero x (y ∷ xs) = refl
at_same (suc n) x [] = at_same n x []
at_same (suc n) x (y ∷ xs) = at_same n x xs

at_other : {A : Type 0} (n m : ℕ) (x : A) (xs : List (Option A)) → (n ≡ m → ⊥) → at (put_at n x xs) m ≡ at xs m
at_other zero zero x xs h = absurd (h refl)
at_other zero (suc m) x [] h = refl
at_other zero (suc m) x (y ∷ xs) h = refl
at_other (suc n) zero x [] h = refl
at_other (suc n) zero x (y ∷ xs) h = refl
at_other (suc n) (suc m) x [] h = at_other n m x [] (λ e. h (ap suc e))
at_other (suc n) (suc m) x (y ∷ xs) h = at_other n m x xs (λ e. h (ap suc e))

-- what has a number, where something was put at one
pub at_put : {A : Type 0} (n m : ℕ) (x : A) (xs : List (Option A)) (b : Bool) → eqb n m ≡ b → at (put_at n x xs) m ≡ cond b (Some x) (at xs m)
at_put n m x xs true e = subst (λ (k : ℕ). at (put_at n x xs) k ≡ Some x) (eqb-true n m e) (at_same n x xs)
at_put n m x xs false e = at_other n m x xs (λ same. true≢false (sym (eq-eqb n m same) ∙ e))

-- what is so of all and of a new one is so of all with it
pub each_put : {A : Type 0} (P : A → Type 0) (n : ℕ) (x : A) (xs : List (Option A)) → P x → ((m : ℕ) (y : A) → at xs m ≡ Some y → P y)
    → (m : ℕ) (y : A) → at (put_at n x xs) m ≡ Some y → P y
each_put {A} P n x xs new old m y e = go (eqb n m) refl
  where
    go : (b : Bool) → eqb n m ≡ b → P y
    go true is = subst P (some_is x y (sym (at_put n m x xs true is) ∙ e)) new
    go false is = old m y (sym (at_put n m x xs false is) ∙ e)

-- nothing goes
pub kept_put : {A : Type 0} (n m : ℕ) (x : A) (xs : List (Option A)) → is_some (at xs m) ≡ true → is_some (at (put_at n x xs) m) ≡ true
kept_put {A} n m x xs h = go (eqb n m) refl
  where
    go : (b : Bool) → eqb n m ≡ b → is_some (at (put_at n x xs) m) ≡ true
    go true is = ap (λ (o : Option A). is_some o) (at_put n m x xs true is)
    go false is = ap (λ (o : Option A). is_some o) (at_put n m x xs false is) ∙ h

length_put : {A : Type 0} (n : ℕ) (x : A) (xs : List (Option A)) → length (put_at n x xs) ≡ max (suc n) (length xs)
length_put zero x [] = refl
length_put zero x (y ∷ xs) = omega arith
length_put (suc n) x [] = let h = length_put n x [] in omega (arith, h)
length_put (suc n) x (y ∷ xs) = let h = length_put n x xs in omega (arith, h)

pub few_put : {A : Type 0} (n most : ℕ) (x : A) (xs : List (Option A)) → suc n ≤ most → length xs ≤ most → length (put_at n x xs) ≤ most
few_put n most x xs new old = let h = length_put n x xs in omega (arith, h)

pub all_more : {A : Type 0} (P : A → Type 0) (xs : List A) (x : A) → AllByRecursion P xs → P x → AllByRecursion P (xs ++ x ∷ [])
all_more P [] x h new = (new, tt)
all_more P (y ∷ xs) x h new = (h.0, all_more P xs x h.1 new)
