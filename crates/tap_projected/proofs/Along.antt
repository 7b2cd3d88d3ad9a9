-- Two lists beside one another, each element beside the one at its place; and a list that is cut into the parts of its keys.
use Rattle.std.proofs.Common.{◌≡◌, ℕ, zero, suc, ◌+◌, ◌≤◌, ◌<◌, cond, List, [], ◌∷◌, ◌++◌, length, Some, false, refl, sym, ap, ◌∙◌, subst, inl, inr, ⊎_elim, arith}
use Rattle.std.specs.Prelude.{◌==◌, filter, slice_get}
use Rattle.std.specs.List.{AllByRecursion}
use Rattle.std.proofs.lemmas.Bool.{cases_Bool, eqb-true}
use Rattle.tap_sound.proofs.Kit.{some_same}
use Rattle.tap_sound.proofs.Turned.{others}
use Rattle.tap_sights.specs.Sight.{In, Ordered}

-- ---- beside one another

abbrev pub Along : {A B : Type 0} → (A → B → Type 0) → List A → List B → Type 0
Along R [] [] = Unit {0}
Along R (x ∷ xs) (y ∷ ys) = R x y × Along R xs ys
Along R xs ys = ⊥

pub along_append : {A B : Type 0} (R : A → B → Type 0) (xs us : List A) (ys vs : List B) → Along R xs ys → Along R us vs → Along R (xs ++ us) (ys ++ vs)
along_append R [] us [] vs h k = k
along_append R (x ∷ xs) us (y ∷ ys) vs h k = (h.0, along_append R xs us ys vs h.1 k)
along_append R [] us (y ∷ ys) vs h k = absurd h
along_append R (x ∷ xs) us [] vs h k = absurd h

pub along_length : {A B : Type 0} (R : A → B → Type 0) (xs : List A) (ys : List B) → Along R xs ys → length ys ≡ length xs
along_length R [] [] h = refl
along_length R (x ∷ xs) (y ∷ ys) h = ap suc (along_length R xs ys h.1)
along_length R [] (y ∷ ys) h = absurd h
along_length R (x ∷ xs) [] h = absurd h

pub along_at : {A B : Type 0} (R : A → B → Type 0) (xs : List A) (ys : List B) (i : ℕ) (x : A) → Along R xs ys → slice_get xs i ≡ Some x
    → (y : B) × (slice_get ys i ≡ Some y) × R x y
along_at R [] [] i x h e = absurd (cc (e))
along_at R (z ∷ xs) (y ∷ ys) zero x h e = (y, refl, subst (λ w. R w y) (some_same z x e) h.0)
along_at R (z ∷ xs) (y ∷ ys) (suc i) x h e = along_at R xs ys i x h.1 e
along_at R [] (y ∷ ys) i x h e = absurd h
along_at R (z ∷ xs) [] i x h e = absurd h

pub along_back : {A B : Type 0} (R : A → B → Type 0) (xs : List A) (ys : List B) (i : ℕ) (y : B) → Along R xs ys → slice_get ys i ≡ Some y
    → (x : A) × (slice_get xs i ≡ Some x) × R x y
along_back R [] [] i y h e = absurd (cc (e))
along_back R (x ∷ xs) (z ∷ ys) zero y h e = (x, refl, subst (R x) (some_same z y e) h.0)
along_back R (x ∷ xs) (z ∷ ys) (suc i) y h e = along_back R xs ys i y h.1 e
along_back R [] (z ∷ ys) i y h e = absurd h
along_back R (x ∷ xs) [] i y h e = absurd h

pub along_in : {A B : Type 0} (R : A → B → Type 0) (xs : List A) (ys : List B) (x : A) → Along R xs ys → In x xs → (y : B) × In y ys × R x y
along_in R [] [] x h i = absurd i
along_in R (z ∷ xs) (y ∷ ys) x h (inl e) = (y, inl refl, subst (λ w. R w y) e h.0)
along_in R (z ∷ xs) (y ∷ ys) x h (inr i) = let r = along_in R xs ys x h.1 i in (r.0, inr r.1, r.2)
along_in R [] (y ∷ ys) x h i = absurd h
along_in R (z ∷ xs) [] x h i = absurd h

pub along_of : {A B : Type 0} (R : A → B → Type 0) (xs : List A) (ys : List B) (y : B) → Along R xs ys → In y ys → (x : A) × In x xs × R x y
along_of R [] [] y h i = absurd i
along_of R (x ∷ xs) (z ∷ ys) y h (inl e) = (x, inl refl, subst (R x) e h.0)
along_of R (x ∷ xs) (z ∷ ys) y h (inr i) = let r = along_of R xs ys y h.1 i in (r.0, inr r.1, r.2)
along_of R [] (z ∷ ys) y h i = absurd h
along_of R (x ∷ xs) [] y h i = absurd h

-- where one list is in order, so is the other
pub along_ordered : {A B : Type 0} (R : A → B → Type 0) (S : A → A → Type 0) (T : B → B → Type 0) (xs : List A) (ys : List B)
    → ((x u : A) (y v : B) → R x y → R u v → S x u → T y v) → Along R xs ys → Ordered S xs → Ordered T ys
along_ordered R S T [] [] law h o = tt
along_ordered R S T (x ∷ xs) (y ∷ ys) law h o = (
  λ v i. let r = along_of R xs ys v h.1 i in law x r.0 y v h.0 r.2 (o.0 r.0 r.1),
  along_ordered R S T xs ys law h.1 o.1,
)
along_ordered R S T [] (y ∷ ys) law h o = absurd h
along_ordered R S T (x ∷ xs) [] law h o = absurd h

-- ---- the parts of a list by their keys

-- as many parts as there are of these, from a key on
abbrev pub parted : {A P : Type 0} → (A → ℕ) → ℕ → List P → List A → List A
parted key n [] xs = []
parted key n (p ∷ ps) xs = filter (λ x. key x == n) xs ++ parted key (n + 1) ps xs

abbrev pub Rises : {A : Type 0} → (A → ℕ) → List A → Type 0
Rises key [] = Unit {0}
Rises key (x ∷ xs) = AllByRecursion (λ y. key x ≤ key y) xs × Rises key xs

module _ {A : Type 0} (key : A → ℕ) where
  none_above : (n : ℕ) (xs : List A) → AllByRecursion (λ y. n + 1 ≤ key y) xs → filter (λ x. key x == n) xs ≡ []
  none_above n [] all = refl
  none_above n (x ∷ xs) all =
      let other : (key x == n) ≡ false = others (key x) n (λ e. let above = all.0 in omega (arith, e, above)) in
      ap (λ b. cond b (x ∷ filter (λ y. key y == n) xs) (filter (λ y. key y == n) xs)) other ∙ none_above n xs all.1

  weaker : (a b : ℕ) (xs : List A) → a ≤ b → AllByRecursion (λ y. b ≤ key y) xs → AllByRecursion (λ y. a ≤ key y) xs
  weaker a b [] le all = tt
  weaker a b (x ∷ xs) le all = (let above = all.0 in omega (arith, le, above), weaker a b xs le all.1)

module _ {A P : Type 0} (key : A → ℕ) where
  parted_none : (n : ℕ) (ps : List P) → parted key n ps [] ≡ []
  parted_none n [] = refl
  parted_none n (p ∷ ps) = parted_none (n + 1) ps

  -- an element of a key before the first isn't among the parts
  skipped : (n : ℕ) (ps : List P) (x : A) (xs : List A) → key x < n → parted key n ps (x ∷ xs) ≡ parted key n ps xs
  skipped n [] x xs below = refl
  skipped n (p ∷ ps) x xs below =
      let other : (key x == n) ≡ false = others (key x) n (λ e. omega (arith, e, below)) in
      ap (λ b. cond b (x ∷ filter (λ y. key y == n) xs) (filter (λ y. key y == n) xs) ++ parted key (n + 1) ps (x ∷ xs)) other
      ∙ ap (λ t. filter (λ y. key y == n) xs ++ t) (skipped (n + 1) ps x xs (omega (arith, below)))

  -- one whose key isn't above the others' is the first
  comes_first : (n : ℕ) (ps : List P) (x : A) (xs : List A) → n ≤ key x → key x < n + length ps → AllByRecursion (λ y. key x ≤ key y) xs
      → parted key n ps (x ∷ xs) ≡ x ∷ parted key n ps xs
  comes_first n [] x xs from below all = absurd (omega (arith, from, below))
  comes_first n (p ∷ ps) x xs from below all = ⊎_elim
      (λ is.
      let same = eqb-true (key x) n is in
      ap (λ b. cond b (x ∷ filter (λ y. key y == n) xs) (filter (λ y. key y == n) xs) ++ parted key (n + 1) ps (x ∷ xs)) is
      ∙ ap (λ t. x ∷ (filter (λ y. key y == n) xs ++ t)) (skipped (n + 1) ps x xs (omega (arith, same))))
      (λ is.
      let above : n + 1 ≤ key x = grind (arith, is, from) in
      let none = none_above key n xs (weaker key (n + 1) (key x) xs above all) in
      ap (λ b. cond b (x ∷ filter (λ y. key y == n) xs) (filter (λ y. key y == n) xs) ++ parted key (n + 1) ps (x ∷ xs)) is
      ∙ ap (λ t. t ++ parted key (n + 1) ps (x ∷ xs)) none
      ∙ comes_first (n + 1) ps x xs above (omega (arith, below)) all
      ∙ ap (λ t. x ∷ (t ++ parted key (n + 1) ps xs)) (sym none))
      (cases_Bool (key x == n))

  -- a list whose keys rise is its parts one behind the other
  pub parted_is : (n : ℕ) (ps : List P) (xs : List A) → Rises key xs → AllByRecursion (λ y. n ≤ key y) xs
      → AllByRecursion (λ y. key y < n + length ps) xs → parted key n ps xs ≡ xs
  parted_is n ps [] rises from below = parted_none n ps
  parted_is n ps (x ∷ xs) rises from below =
      comes_first n ps x xs from.0 below.0 rises.0 ∙ ap (λ t. x ∷ t) (parted_is n ps xs rises.1 from.1 below.1)
