-- This project's own: things by their numbers, of which some aren't there.
use Rattle.std.specs.Prelude.{ℕ, zero, suc, ◌+◌, List, [], ◌∷◌, Option, Some, None}

-- what has a number
abbrev pub at : {A : Type 0} → List (Option A) → ℕ → Option A
at [] n = None
at (x ∷ xs) zero = x
at (x ∷ xs) (suc n) = at xs n

-- with another in the place of what has a number
abbrev pub with_at : {A : Type 0} → ℕ → A → List (Option A) → List (Option A)
with_at n new [] = []
with_at zero new (x ∷ xs) = Some new ∷ xs
with_at (suc n) new (x ∷ xs) = x ∷ with_at n new xs

-- with one of a number, also past all that are there
abbrev pub put_at : {A : Type 0} → ℕ → A → List (Option A) → List (Option A)
put_at zero new [] = Some new ∷ []
put_at (suc n) new [] = None ∷ put_at n new []
put_at zero new (x ∷ xs) = Some new ∷ xs
put_at (suc n) new (x ∷ xs) = x ∷ put_at n new xs

-- all that are there, each behind its number, where the list begins with this number
abbrev pub numbered : {A : Type 0} → ℕ → List (Option A) → List (ℕ × A)
numbered n [] = []
numbered n (None ∷ xs) = numbered (n + 1) xs
numbered n (Some x ∷ xs) = (n, x) ∷ numbered (n + 1) xs

-- what has a place in a list, in its place
abbrev pub with_nth : {A : Type 0} → ℕ → A → List A → List A
with_nth n new [] = []
with_nth zero new (x ∷ xs) = new ∷ xs
with_nth (suc n) new (x ∷ xs) = x ∷ with_nth n new xs
