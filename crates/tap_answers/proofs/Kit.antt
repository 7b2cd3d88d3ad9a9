-- Lists by place, tests on numbers, and what a state of a table is at its newest version.
use Rattle.std.proofs.Common.{◌≡◌, ℕ, zero, suc, ◌<◌, ◌≤◌, List, [], ◌∷◌, ◌++◌, length, map, take, true, false, Option, Some, None, ⊎_elim, refl, sym, ap, ◌∙◌, subst, true≢false, arith}
use Rattle.std.specs.Prelude.{nat_lt, is_none, is_some, option_map, slice_get}
use Rattle.std.specs.List.{AllByRecursion}
use Rattle.std.proofs.lemmas.Bool.Decides.{leb_tells}
use Rattle.tap_steer.specs.After.{after_all}
use Rattle.tap_world.specs.declared.line.Entry.{Entry}
use Rattle.tap_world.specs.declared.line.Standing.{Standing}
use Rattle.tap_world.specs.ByNumber.{at, with_at}
use Rattle.tap_world.specs.LineSteps.{restand}
use Rattle.tap_world.specs.Setup.{Setup, opening_table}
use Rattle.tap_world.specs.declared.told.Published.{Published}
use Rattle.tap_world.specs.World.{World, newest, table, table_at}
use Rattle.tap_sound.proofs.Kit.{some_same}

-- ---- lists

pub all_at : {A : Type 0} (P : A → Type 0) (xs : List A) (i : ℕ) (x : A) → AllByRecursion P xs → slice_get xs i ≡ Some x
    → P x
all_at P [] i x h e = absurd (cc (e))
all_at P (y ∷ ys) zero x h e = subst P (some_same y x e) h.0
all_at P (y ∷ ys) (suc i) x h e = all_at P ys i x h.1 e

pub at_front : {A : Type 0} (xs ys : List A) (i : ℕ) (x : A) → slice_get xs i ≡ Some x → slice_get (xs ++ ys) i ≡ Some x
at_front [] ys i x e = absurd (cc (e))
at_front (y ∷ xs) ys zero x e = e
at_front (y ∷ xs) ys (suc i) x e = at_front xs ys i x e

-- what stands first behind a list
pub at_end : {A : Type 0} (xs : List A) (y : A) → slice_get (xs ++ y ∷ []) (length xs) ≡ Some y
at_end [] y = refl
at_end (x ∷ xs) y = at_end xs y

pub with_at_here : {A : Type 0} (n : ℕ) (x new : A) (xs : List (Option A)) → at xs n ≡ Some x
    → at (with_at n new xs) n ≡ Some new
with_at_here n x new [] e = absurd (cc (e))
with_at_here zero x new (y ∷ ys) e = refl
with_at_here (suc n) x new (y ∷ ys) e = with_at_here n x new ys e

pub restand_here : (i : ℕ) (s : Standing) (line : List Entry) (e : Entry) → slice_get line i ≡ Some e
    → slice_get (restand i s line) i ≡ Some (record e { stands = s })
restand_here i s [] e is = absurd (cc (is))
restand_here zero s (d ∷ ds) e is = ap (λ (q : Entry). Some (record q { stands = s })) (some_same d e is)
restand_here (suc i) s (d ∷ ds) e is = restand_here i s ds e is

-- ---- tests

pub less : (a b : ℕ) → nat_lt a b ≡ true → a < b
less a b e = ⊎_elim (λ t. let h = t.1 in omega (arith, h)) (λ t. absurd (true≢false (sym e ∙ t.0)))
    (leb_tells (suc a) b)

pub at_most : (a b : ℕ) → nat_lt a b ≡ false → b ≤ a
at_most a b e = ⊎_elim (λ t. absurd (true≢false (sym t.0 ∙ e))) (λ t. let h = t.1 in omega (arith, h))
    (leb_tells (suc a) b)

pub none_is : {A : Type 0} (o : Option A) → is_none o ≡ true → o ≡ None
none_is None h = refl
none_is (Some x) h = absurd (true≢false (sym h))

pub some_is : {A : Type 0} (o : Option A) → is_some o ≡ true → (x : A) × (o ≡ Some x)
some_is None h = absurd (true≢false (sym h))
some_is (Some x) h = (x, refl)

-- what is mapped to a value
pub mapped : {A B : Type 0} (f : A → B) (o : Option A) (y : B) → option_map f o ≡ Some y
    → (x : A) × (o ≡ Some x) × (f x ≡ y)
mapped f None y e = absurd (cc (e))
mapped f (Some x) y e = (x, refl, some_same (f x) y e)

-- ---- the newest table

take_whole : {A : Type 0} (xs : List A) → take (length xs) xs ≡ xs
take_whole [] = refl
take_whole (x ∷ xs) = ap (λ (ys : List _). x ∷ ys) (take_whole xs)

pub table_now : (s : Setup) (w : World) → table_at s w (newest w) ≡ table s w
table_now s w =
    ap (λ (l : List Published). after_all (opening_table s) (map (λ (p : Published). p.op) l)) (take_whole w.ops)
