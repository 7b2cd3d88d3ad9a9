-- Options and tests taken apart.
use Rattle.std.proofs.Common.{◌≡◌, ℕ, ◌+◌, Option, Some, None, Bool, true, false, refl, sym, true≢false}
use Rattle.std.specs.Prelude.{is_some, option_map}
use Rattle.tap_ground.specs.Options.{◌>>=◌, only_if}

pub some_same : {A : Type 0} (x y : A) → Some x ≡ Some y → x ≡ y
some_same x y e = cc (e)

pub then_some : {A B : Type 0} (o : Option A) (g : A → Option B) (y : B) → (o >>= g) ≡ Some y → (x : A) × (o ≡ Some x) × (g x ≡ Some y)
then_some None g y e = absurd (cc (e))
then_some (Some x) g y e = (x, refl, e)

pub only_some : {A : Type 0} (b : Bool) (x y : A) → only_if b x ≡ Some y → (b ≡ true) × (x ≡ y)
only_some true x y e = (refl, some_same x y e)
only_some false x y e = absurd (cc (e))

-- one further on
pub next_some : (o : Option ℕ) (i : ℕ) → option_map (λ j. j + 1) o ≡ Some i → (j : ℕ) × (o ≡ Some j) × (j + 1 ≡ i)
next_some None i e = absurd (cc (e))
next_some (Some j) i e = (j, refl, some_same (j + 1) i e)

pub next_none : (o : Option ℕ) → option_map (λ j. j + 1) o ≡ None → o ≡ None
next_none None e = refl
next_none (Some j) e = absurd (cc (e))

-- a value that is there
pub is_there : {A : Type 0} (o : Option A) → is_some o ≡ true → (x : A) × (o ≡ Some x)
is_there None e = absurd (true≢false (sym e))
is_there (Some x) e = (x, refl)

pub none_some : {A : Type 0} (o : Option A) (x : A) → o ≡ None → o ≡ Some x → ⊥
none_some o x a b = cc (a, b)
