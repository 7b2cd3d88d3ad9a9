-- Lists: elements, places, filters, and lists in order.
use Rattle.std.proofs.Common.{◌≡◌, ◌⊎◌, ℕ, zero, suc, ◌+◌, ◌<◌, cond, List, [], ◌∷◌, ◌++◌, length, map, Some, Bool, true, false, refl, sym, ap, ◌∙◌, subst, inl, inr, ⊎_elim, true≢false, arith}
use Rattle.std.specs.Prelude.{◌==◌, filter, find, slice_get}
use Rattle.std.specs.List.{AllByRecursion}
use Rattle.std.proofs.lemmas.Bool.{cases_order}
use Rattle.tap_sound.proofs.Kit.{some_same}
use Rattle.tap_sights.specs.Sight.{In, Ordered}

-- ---- elements

pub in_first : {A : Type 0} (x : A) (xs ys : List A) → In x xs → In x (xs ++ ys)
in_first x [] ys i = absurd i
in_first x (z ∷ zs) ys (inl e) = inl e
in_first x (z ∷ zs) ys (inr i) = inr (in_first x zs ys i)

pub in_second : {A : Type 0} (x : A) (xs ys : List A) → In x ys → In x (xs ++ ys)
in_second x [] ys i = i
in_second x (z ∷ zs) ys i = inr (in_second x zs ys i)

pub in_either : {A : Type 0} (x : A) (xs ys : List A) → In x (xs ++ ys) → In x xs ⊎ In x ys
in_either x [] ys i = inr i
in_either x (z ∷ zs) ys (inl e) = inl (inl e)
in_either x (z ∷ zs) ys (inr i) = ⊎_elim (λ u. inl (inr u)) (λ u. inr u) (in_either x zs ys i)

pub in_map : {A B : Type 0} (f : A → B) (xs : List A) (x : A) → In x xs → In (f x) (map f xs)
in_map f [] x i = absurd i
in_map f (y ∷ ys) x (inl e) = inl (ap f e)
in_map f (y ∷ ys) x (inr i) = inr (in_map f ys x i)

pub of_map : {A B : Type 0} (f : A → B) (xs : List A) (y : B) → In y (map f xs) → (x : A) × In x xs × (f x ≡ y)
of_map f [] y i = absurd i
of_map f (x ∷ xs) y (inl e) = (x, inl refl, e)
of_map f (x ∷ xs) y (inr i) = let r = of_map f xs y i in (r.0, inr r.1, r.2)

pub of_filter : {A : Type 0} (test : A → Bool) (xs : List A) (x : A) → In x (filter test xs) → In x xs × (test x ≡ true)
of_filter test [] x i = absurd i
of_filter test (y ∷ ys) x i = go (test y) refl (λ j. of_filter test ys x j) i
  where
    go : (b : Bool) → test y ≡ b → (In x (filter test ys) → In x ys × (test x ≡ true))
        → In x (cond b (y ∷ filter test ys) (filter test ys)) → In x (y ∷ ys) × (test x ≡ true)
    go true is more (inl e) = (inl e, subst (λ z. test z ≡ true) e is)
    go true is more (inr j) = let r = more j in (inr r.0, r.1)
    go false is more j = let r = more j in (inr r.0, r.1)

pub in_filter : {A : Type 0} (test : A → Bool) (xs : List A) (x : A) → In x xs → test x ≡ true → In x (filter test xs)
in_filter test [] x i e = absurd i
in_filter test (y ∷ ys) x (inl is) e = rw (ap test is ∙ e) (inl is)
in_filter {A} test (y ∷ ys) x (inr i) e = go (test y) (in_filter test ys x i e)
  where
    go : (b : Bool) → In x (filter test ys) → In x (cond b (y ∷ filter test ys) (filter test ys))
    go true j = inr j
    go false j = j

pub found : {A : Type 0} (test : A → Bool) (xs : List A) (x : A) → In x xs → test x ≡ true
    → (y : A) × (find test xs ≡ Some y) × In y xs × (test y ≡ true)
found test [] x i e = absurd i
found {A} test (y ∷ ys) x i e = go (test y) refl i (λ j. found test ys x j e)
  where
    go : (b : Bool) → test y ≡ b → In x (y ∷ ys) → (In x ys → (z : A) × (find test ys ≡ Some z) × In z ys × (test z ≡ true))
        → (z : A) × (find test (y ∷ ys) ≡ Some z) × In z (y ∷ ys) × (test z ≡ true)
    go true is j more = (y, cc (is), inl refl, is)
    go false is (inl same) more = absurd (true≢false (sym e ∙ ap test (sym same) ∙ is))
    go false is (inr j) more = let r = more j in let at = r.1 in (r.0, cc (is, at), inr r.2, r.3)

-- ---- all of a list

pub all_in : {A : Type 0} (P : A → Type 0) (xs : List A) (x : A) → AllByRecursion P xs → In x xs → P x
all_in P [] x all i = absurd i
all_in P (y ∷ ys) x all (inl e) = subst P e all.0
all_in P (y ∷ ys) x all (inr i) = all_in P ys x all.1 i

pub all_of : {A : Type 0} (P : A → Type 0) (xs : List A) → ((x : A) → In x xs → P x) → AllByRecursion P xs
all_of P [] each = tt
all_of P (x ∷ xs) each = (each x (inl refl), all_of P xs (λ y i. each y (inr i)))

-- ---- places

pub in_at : {A : Type 0} (xs : List A) (i : ℕ) (x : A) → slice_get xs i ≡ Some x → In x xs
in_at [] i x e = absurd (cc (e))
in_at (y ∷ ys) zero x e = inl (some_same y x e)
in_at (y ∷ ys) (suc i) x e = inr (in_at ys i x e)

pub at_in : {A : Type 0} (xs : List A) (x : A) → In x xs → (i : ℕ) × (slice_get xs i ≡ Some x)
at_in [] x i = absurd i
at_in (y ∷ ys) x (inl e) = (0, ap Some e)
at_in (y ∷ ys) x (inr i) = let r = at_in ys x i in (suc r.0, r.1)

pub at_front : {A : Type 0} (xs ys : List A) (i : ℕ) (x : A) → slice_get xs i ≡ Some x → slice_get (xs ++ ys) i ≡ Some x
at_front [] ys i x e = absurd (cc (e))
at_front (y ∷ xs) ys zero x e = e
at_front (y ∷ xs) ys (suc i) x e = at_front xs ys i x e

pub at_behind : {A : Type 0} (xs ys : List A) (m k : ℕ) → m ≡ length xs + k → slice_get (xs ++ ys) m ≡ slice_get ys k
at_behind [] ys m k e = ap (slice_get ys) (omega (arith, e))
at_behind (x ∷ xs) ys zero k e = absurd (omega (arith, e))
at_behind (x ∷ xs) ys (suc m) k e = at_behind xs ys m k (omega (arith, e))

pub of_map_at : {A B : Type 0} (f : A → B) (xs : List A) (i : ℕ) (y : B) → slice_get (map f xs) i ≡ Some y
    → (x : A) × (slice_get xs i ≡ Some x) × (f x ≡ y)
of_map_at f [] i y e = absurd (cc (e))
of_map_at f (x ∷ xs) zero y e = (x, refl, some_same (f x) y e)
of_map_at f (x ∷ xs) (suc i) y e = of_map_at f xs i y e

-- what a filter keeps stands in its order
pub filter_places : {A : Type 0} (test : A → Bool) (xs : List A) (i j : ℕ) (x y : A) → i < j → slice_get xs i ≡ Some x → slice_get xs j ≡ Some y
    → test x ≡ true → test y ≡ true
    → (a : ℕ) × (b : ℕ) × (a < b) × (slice_get (filter test xs) a ≡ Some x) × (slice_get (filter test xs) b ≡ Some y)
filter_places test [] i j x y lt at_x at_y is_x is_y = absurd (cc (at_x))
filter_places test (z ∷ zs) i zero x y lt at_x at_y is_x is_y = absurd (omega (arith, lt))
filter_places test (z ∷ zs) zero (suc j) x y lt at_x at_y is_x is_y =
    let same = some_same z x at_x in
    let kept = at_in (filter test zs) y (in_filter test zs y (in_at zs j y at_y) is_y) in
    rw (ap test same ∙ is_x) (0, suc kept.0, omega arith, ap Some same, kept.1)
filter_places {A} test (z ∷ zs) (suc i) (suc j) x y lt at_x at_y is_x is_y =
    go (test z) (filter_places test zs i j x y (omega (arith, lt)) at_x at_y is_x is_y)
  where
    go : (t : Bool)
        → (a : ℕ) × (b : ℕ) × (a < b) × (slice_get (filter test zs) a ≡ Some x) × (slice_get (filter test zs) b ≡ Some y)
        → (a : ℕ) × (b : ℕ) × (a < b) × (slice_get (cond t (z ∷ filter test zs) (filter test zs)) a ≡ Some x)
        × (slice_get (cond t (z ∷ filter test zs) (filter test zs)) b ≡ Some y)
    go true r = let lower = r.2 in (suc r.0, suc r.1, omega (arith, lower), r.3, r.4)
    go false r = r

-- ---- lists in order

pub ordered_append : {A : Type 0} (R : A → A → Type 0) (xs ys : List A) → Ordered R xs → Ordered R ys
    → ((x y : A) → In x xs → In y ys → R x y) → Ordered R (xs ++ ys)
ordered_append R [] ys o p each = p
ordered_append R (x ∷ xs) ys o p each = (
  λ y i. ⊎_elim (λ j. o.0 y j) (λ j. each x y (inl refl) j) (in_either y xs ys i),
  ordered_append R xs ys o.1 p (λ z y i j. each z y (inr i) j),
)

pub ordered_filter : {A : Type 0} (R : A → A → Type 0) (test : A → Bool) (xs : List A) → Ordered R xs → Ordered R (filter test xs)
ordered_filter R test [] o = tt
ordered_filter R test (x ∷ xs) o = go (test x) (ordered_filter R test xs o.1)
  where
    go : (b : Bool) → Ordered R (filter test xs) → Ordered R (cond b (x ∷ filter test xs) (filter test xs))
    go true rest = (λ y i. o.0 y (of_filter test xs y i).0, rest)
    go false rest = rest

pub ordered_map : {A B : Type 0} (R : A → A → Type 0) (S : B → B → Type 0) (f : A → B) (xs : List A)
    → ((x y : A) → R x y → S (f x) (f y)) → Ordered R xs → Ordered S (map f xs)
ordered_map R S f [] law o = tt
ordered_map R S f (x ∷ xs) law o = (
  λ y i. let r = of_map f xs y i in subst (S (f x)) r.2 (law x r.0 (o.0 r.0 r.1)),
  ordered_map R S f xs law o.1,
)

-- where what they are mapped to is in order, so are they
pub ordered_by : {A B : Type 0} (S : B → B → Type 0) (f : A → B) (xs : List A) → Ordered S (map f xs) → Ordered (λ x y. S (f x) (f y)) xs
ordered_by S f [] o = tt
ordered_by S f (x ∷ xs) o = (λ y i. o.0 (f y) (in_map f xs y i), ordered_by S f xs o.1)

pub ordered_on : {A : Type 0} (R S : A → A → Type 0) (xs : List A) → ((x y : A) → In x xs → In y xs → R x y → S x y) → Ordered R xs → Ordered S xs
ordered_on R S [] law o = tt
ordered_on R S (x ∷ xs) law o = (
  λ y i. law x y (inl refl) (inr i) (o.0 y i),
  ordered_on R S xs (λ z y i j. law z y (inr i) (inr j)) o.1,
)

pub ordered_at : {A : Type 0} (R : A → A → Type 0) (xs : List A) (i j : ℕ) (x y : A) → Ordered R xs → i < j → slice_get xs i ≡ Some x
    → slice_get xs j ≡ Some y → R x y
ordered_at R [] i j x y o lt at_x at_y = absurd (cc (at_x))
ordered_at R (z ∷ zs) i zero x y o lt at_x at_y = absurd (omega (arith, lt))
ordered_at R (z ∷ zs) zero (suc j) x y o lt at_x at_y = subst (λ w. R w y) (some_same z x at_x) (o.0 y (in_at zs j y at_y))
ordered_at R (z ∷ zs) (suc i) (suc j) x y o lt at_x at_y = ordered_at R zs i j x y o.1 (omega (arith, lt)) at_x at_y

-- ---- numbers

pub same_number : (m n : ℕ) → (m == n) ≡ true → m ≡ n
same_number m n e = grind arith

pub one_of_two : (i j : ℕ) → (i < j → ⊥) → (j < i → ⊥) → i ≡ j
one_of_two i j less more = ⊎_elim (λ e. e) (⊎_elim (λ l. absurd (less l)) (λ m. absurd (more m))) (cases_order i j)
