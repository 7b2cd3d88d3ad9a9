-- Lines that are the wanted ones, one by one.
use Rattle.std.proofs.Common.{◌≡◌, ◌⊎◌, ℕ, zero, suc, ◌+◌, ◌<◌, List, [], ◌∷◌, map, Option, Some, None, Bool, true, false, refl, sym, ap, ◌∙◌, subst, inl, inr, arith}
use Rattle.std.specs.Prelude.{if◌then◌else◌, flat_map, slice_get}
use Rattle.std.specs.List.{list_any}
use Rattle.tap_world.specs.ByNumber.{at, numbered}
use Rattle.tap_legal.specs.Case.{Case, fails_as, fails_wanted}
use Rattle.tap_sights.specs.Sight.{In, Ordered}
use Rattle.tap_sights.proofs.Kit.{any_in, both_none, in_append, in_map_of, none_breaks, none_fails, some_same}

-- ---- one by one

abbrev pub Matched : {A B : Type 0} → (A → B → Bool) → List A → List B → Type 0
Matched same [] [] = Unit {0}
Matched same (x ∷ xs) (y ∷ ys) = (same x y ≡ true) × Matched same xs ys
Matched same xs ys = ⊥

pub matched_from : {A B : Type 0} (end : ℕ) (same : A → B → Bool) (line : B → ℕ) (xs : List A) (ys : List B)
    → fails_as end same line xs ys ≡ [] → Matched same xs ys
matched_from end same line [] [] e = tt
matched_from end same line [] (y ∷ ys) e = absurd (cc (e))
matched_from end same line (x ∷ xs) [] e = absurd (cc (e))
matched_from end same line (x ∷ xs) (y ∷ ys) e = go (same x y) refl (λ h. matched_from end same line xs ys h) e
  where
    go : (b : Bool) → same x y ≡ b → (fails_as end same line xs ys ≡ [] → Matched same xs ys)
        → (if b then fails_as end same line xs ys else line y ∷ []) ≡ [] → (same x y ≡ true) × Matched same xs ys
    go true is more h = (is, more h)
    go false is more h = absurd (cc (h))

pub matched_maps : {A B C : Type 0} (same : A → B → Bool) (f : A → C) (g : B → C) → ((x : A) (y : B) → f x ≡ g y → same x y ≡ true)
    → (xs : List A) (ys : List B) → map f xs ≡ map g ys → Matched same xs ys
matched_maps same f g law [] [] e = tt
matched_maps same f g law [] (y ∷ ys) e = absurd (cc (e))
matched_maps same f g law (x ∷ xs) [] e = absurd (cc (e))
matched_maps same f g law (x ∷ xs) (y ∷ ys) e = (law x y (cc (e)), matched_maps same f g law xs ys (cc (e)))

pub has_wanted : {A B : Type 0} (same : A → B → Bool) (xs : List A) (ys : List B) → Matched same xs ys → (y : B) → In y ys
    → (x : A) × In x xs × (same x y ≡ true)
has_wanted same [] [] m y i = absurd i
has_wanted same [] (z ∷ zs) m y i = absurd m
has_wanted same (x ∷ xs) [] m y i = absurd m
has_wanted same (x ∷ xs) (z ∷ zs) m y (inl e) = (x, inl refl, ap (same x) (sym e) ∙ m.0)
has_wanted same (x ∷ xs) (z ∷ zs) m y (inr i) = let r = has_wanted same xs zs m.1 y i in (r.0, inr r.1, r.2)

pub has_line : {A B : Type 0} (same : A → B → Bool) (xs : List A) (ys : List B) → Matched same xs ys → (x : A) → In x xs
    → (y : B) × In y ys × (same x y ≡ true)
has_line same [] [] m x i = absurd i
has_line same [] (z ∷ zs) m x i = absurd i
has_line same (w ∷ xs) [] m x i = absurd m
has_line same (w ∷ xs) (z ∷ zs) m x (inl e) = (z, inl refl, ap (λ v. same v z) (sym e) ∙ m.0)
has_line same (w ∷ xs) (z ∷ zs) m x (inr i) = let r = has_line same xs zs m.1 x i in (r.0, inr r.1, r.2)

-- lines whose wanted ones rise do so too
pub lines_rise : {A B : Type 0} (same : A → B → Bool) (R : A → A → Type 0) (S : B → B → Type 0)
    → ((x w : A) (y z : B) → R x w → same x y ≡ true → same w z ≡ true → S y z)
    → (xs : List A) (ys : List B) → Matched same xs ys → Ordered R xs → Ordered S ys
lines_rise same R S law [] [] m o = tt
lines_rise same R S law [] (y ∷ ys) m o = absurd m
lines_rise same R S law (x ∷ xs) [] m o = absurd m
lines_rise same R S law (x ∷ xs) (y ∷ ys) m o =
    (λ z i. let w = has_wanted same xs ys m.1 z i in law x w.0 y z (o.0 w.0 w.1) m.0 w.2, lines_rise same R S law xs ys m.1 o.1)

pub all_wanted : {A B : Type 0} (c : Case) (line : B → ℕ) (same : A → B → Bool) (rises : B → B → Bool) (xs : List A) (ys : List B)
    → Matched same xs ys → Ordered (λ x y. rises x y ≡ true) ys → fails_wanted c line same rises xs ys ≡ []
all_wanted c line same rises xs ys m o =
    both_none _ _
    (both_none _ _
    (none_fails line (λ l. list_any (λ w. same w l) xs) ys
    (λ y i. let w = has_wanted same xs ys m y i in any_in (λ z. same z y) xs w.0 w.1 w.2))
    (none_breaks line rises (λ x y. rises x y ≡ true) ys (λ x y h. h) o))
    (none_fails (λ x. c.end) (λ w. list_any (same w) ys) xs (λ x i. let l = has_line same xs ys m x i in any_in (same x) ys l.0 l.1 l.2))

-- ---- by number

next_of : (n i : ℕ) → n + 1 + i ≡ n + suc i
next_of n i = omega arith

pub at_numbered : {A : Type 0} (n : ℕ) (xs : List (Option A)) (p : ℕ × A) → In p (numbered n xs)
    → (i : ℕ) × (p.0 ≡ n + i) × (at xs i ≡ Some p.1)
at_numbered n [] p i = absurd i
at_numbered n (None ∷ xs) p i = let r = at_numbered (n + 1) xs p i in (suc r.0, r.1 ∙ next_of n r.0, r.2)
at_numbered {A} n (Some x ∷ xs) p (inl e) = (0, here, ap (λ (q : ℕ × A). Some q.1) e)
  where
    here : p.0 ≡ n + 0
    here = let h = ap (λ (q : ℕ × A). q.0) e in omega (arith, h)
at_numbered n (Some x ∷ xs) p (inr i) = let r = at_numbered (n + 1) xs p i in (suc r.0, r.1 ∙ next_of n r.0, r.2)

pub numbered_at : {A : Type 0} (n : ℕ) (xs : List (Option A)) (i : ℕ) (x : A) → at xs i ≡ Some x → In (n + i, x) (numbered n xs)
numbered_at n [] i x e = absurd (cc (e))
numbered_at n (None ∷ xs) zero x e = absurd (cc (e))
numbered_at n (Some y ∷ xs) zero x e = inl (λ i. (same i, some_same y x e i))
  where
    same : n ≡ n + 0
    same = omega arith
numbered_at n (None ∷ xs) (suc i) x e =
    subst (λ m. In (m, x) (numbered (n + 1) xs)) (next_of n i) (numbered_at (n + 1) xs i x e)
numbered_at n (Some y ∷ xs) (suc i) x e =
    inr (subst (λ m. In (m, x) (numbered (n + 1) xs)) (next_of n i) (numbered_at (n + 1) xs i x e))

pub numbered_rise : {A : Type 0} (n : ℕ) (xs : List (Option A)) → Ordered (λ (p q : ℕ × A). p.0 < q.0) (numbered n xs)
numbered_rise n [] = tt
numbered_rise n (None ∷ xs) = numbered_rise (n + 1) xs
numbered_rise n (Some x ∷ xs) =
    (λ q i. let r = at_numbered (n + 1) xs q i in let e = r.1 in omega (arith, e), numbered_rise (n + 1) xs)

-- ---- lists

pub at_some : {A : Type 0} (xs : List A) (x : A) → In x xs → (i : ℕ) × (slice_get xs i ≡ Some x)
at_some [] x i = absurd i
at_some (y ∷ ys) x (inl e) = (zero, ap Some e)
at_some (y ∷ ys) x (inr i) = let r = at_some ys x i in (suc r.0, r.1)

pub ordered_map : {A B : Type 0} (f : A → B) (R : B → B → Type 0) (xs : List A) → Ordered R (map f xs) → Ordered (λ x y. R (f x) (f y)) xs
ordered_map f R [] o = tt
ordered_map f R (x ∷ xs) o = (λ y i. o.0 (f y) (in_map_of f xs y i), ordered_map f R xs o.1)

pub in_flat : {A B : Type 0} (f : A → List B) (xs : List A) (y : B) → In y (flat_map f xs) → (x : A) × In x xs × In y (f x)
in_flat f [] y i = absurd i
in_flat {A} {B} f (x ∷ xs) y i = go (in_append y (f x) (flat_map f xs) i) (λ j. in_flat f xs y j)
  where
    go : In y (f x) ⊎ In y (flat_map f xs) → (In y (flat_map f xs) → (z : A) × In z xs × In y (f z)) → (z : A) × In z (x ∷ xs) × In y (f z)
    go (inl j) more = (x, inl refl, j)
    go (inr j) more = let r = more j in (r.0, inr r.1, r.2)
