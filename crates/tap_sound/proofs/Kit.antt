-- Options, tests and lists by number, taken apart.
use Rattle.std.proofs.Common.{◌≡◌, Option, Some, None, Bool, true, false, refl, ap, ◌∙◌, subst}
use Rattle.std.specs.Prelude.{if◌then◌else◌}
use Rattle.tap_ground.specs.Options.{◌>>=◌, only_if}

pub some_same : {A : Type 0} (x y : A) → Some x ≡ Some y → x ≡ y
some_same x y e = cc (e)

pub then_some : {A B : Type 0} (o : Option A) (g : A → Option B) (y : B) → (o >>= g) ≡ Some y → (x : A) × (o ≡ Some x) × (g x ≡ Some y)
then_some None g y e = absurd (cc (e))
then_some (Some x) g y e = (x, refl, e)

pub some_then : {A B : Type 0} (o : Option A) (g : A → Option B) (x : A) (y : B) → o ≡ Some x → g x ≡ Some y → (o >>= g) ≡ Some y
some_then None g x y e h = absurd (cc (e))
some_then (Some z) g x y e h = ap g (some_same z x e) ∙ h

pub only_some : {A : Type 0} (b : Bool) (x y : A) → only_if b x ≡ Some y → (b ≡ true) × (x ≡ y)
only_some true x y e = (refl, some_same x y e)
only_some false x y e = absurd (cc (e))

-- ---- what holds of a value that may be none

abbrev pub WhereSome : {A : Type 0} → (A → Type 0) → Option A → Type 0
WhereSome P None = Unit {0}
WhereSome P (Some x) = P x

pub where_some : {A : Type 0} (P : A → Type 0) (o : Option A) (x : A) → WhereSome P o → o ≡ Some x → P x
where_some P None x h e = absurd (cc (e))
where_some P (Some y) x h e = subst P (some_same y x e) h

pub where_then : {A B : Type 0} (P : B → Type 0) (o : Option A) (g : A → Option B) → ((x : A) → o ≡ Some x → WhereSome P (g x)) → WhereSome P (o >>= g)
where_then P None g h = tt
where_then P (Some x) g h = h x refl

pub where_only : {A : Type 0} (P : A → Type 0) (b : Bool) (x : A) → (b ≡ true → P x) → WhereSome P (only_if b x)
where_only P true x h = h refl
where_only P false x h = tt

pub where_if : {A : Type 0} (P : A → Type 0) (b : Bool) (o : Option A) → (b ≡ true → WhereSome P o) → WhereSome P (if b then o else None)
where_if P true o h = h refl
where_if P false o h = tt

pub either : {A : Type 0} (P : A → Type 0) (b : Bool) (x y : A) → P x → P y → P (if b then x else y)
either P true x y h k = h
either P false x y h k = k
