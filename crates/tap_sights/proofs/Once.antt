-- Lists of which at most one element passes a test, and ordered lists with the same members.
use Rattle.std.proofs.Common.{◌≡◌, ◌⊎◌, cond, List, [], ◌∷◌, Bool, true, false, refl, sym, ap, ◌∙◌, subst, inl, inr}
use Rattle.std.specs.Prelude.{filter}
use Rattle.tap_sights.specs.Sight.{In, Ordered}
use Rattle.tap_sights.proofs.LinesKit.{filter_none}

-- ---- what passes

-- one passes, where no two do
pub one_passes : {A : Type 0} (R : A → A → Type 0) (test : A → Bool) (xs : List A) (x : A) → Ordered R xs
    → ((y z : A) → R y z → test y ≡ true → test z ≡ true → ⊥) → In x xs → test x ≡ true → filter test xs ≡ x ∷ []
one_passes R test [] x o law i is = absurd i
one_passes {A} R test (y ∷ ys) x o law (inl e) is =
    let passes : test y ≡ true = ap test e ∙ is in
    let none : filter test ys ≡ [] = filter_none test ys (λ z j. fails z (test z) refl (law y z (o.0 z j) passes)) in
    rw (passes, none) (ap (λ w. w ∷ []) e)
  where
    fails : (z : A) (b : Bool) → test z ≡ b → (test z ≡ true → ⊥) → test z ≡ false
    fails z true e no_ = absurd (no_ e)
    fails z false e no_ = e
one_passes {A} R test (y ∷ ys) x o law (inr i) is = go (test y) refl (one_passes R test ys x o.1 law i is)
  where
    go : (b : Bool) → test y ≡ b → filter test ys ≡ x ∷ [] → cond b (y ∷ filter test ys) (filter test ys) ≡ x ∷ []
    go true passes rest = absurd (law y x (o.0 x i) passes is)
    go false fails rest = rest

-- an element of a list of one
pub in_one : {A : Type 0} (x y : A) (xs : List A) → xs ≡ y ∷ [] → In x xs → x ≡ y
in_one x y xs e i = go (subst (In x) e i)
  where
    go : In x (y ∷ []) → x ≡ y
    go (inl is) = sym is
    go (inr j) = absurd j

-- ---- the same members

-- two lists in order, of which each has the other's members, are one
pub same_members : {A : Type 0} (R : A → A → Type 0) → ((x y : A) → R x y → R y x → ⊥) → (xs ys : List A)
    → Ordered R xs → Ordered R ys → ((z : A) → In z xs → In z ys) → ((z : A) → In z ys → In z xs) → xs ≡ ys
same_members R law [] [] o p f g = refl
same_members R law [] (y ∷ ys) o p f g = absurd (g y (inl refl))
same_members R law (x ∷ xs) [] o p f g = absurd (f x (inl refl))
same_members {A} R law (x ∷ xs) (y ∷ ys) o p f g =
    ap (λ w. w ∷ xs) head ∙ ap (λ zs. y ∷ zs)
    (same_members R law xs ys o.1 p.1 (λ z i. there z i (f z (inr i))) (λ z i. back z i (g z (inr i))))
  where
    first : (y ≡ x) ⊎ In x ys → (x ≡ y) ⊎ In y xs → x ≡ y
    first (inl e) j = sym e
    first (inr i) (inl e) = e
    first (inr i) (inr j) = absurd (law y x (p.0 x i) (o.0 y j))

    head : x ≡ y
    head = first (f x (inl refl)) (g y (inl refl))

    there : (z : A) → In z xs → (y ≡ z) ⊎ In z ys → In z ys
    there z i (inl e) =
        let r : R x x = subst (R x) (sym (head ∙ e)) (o.0 z i) in
        absurd (law x x r r)
    there z i (inr j) = j

    back : (z : A) → In z ys → (x ≡ z) ⊎ In z xs → In z xs
    back z i (inl e) =
        let r : R y y = subst (R y) (sym (sym head ∙ e)) (p.0 z i) in
        absurd (law y y r r)
    back z i (inr j) = j
