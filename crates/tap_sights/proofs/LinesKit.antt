-- Lists of lines that are the wanted ones, and lists in order.
use Rattle.std.proofs.Common.{◌≡◌, ℕ, suc, ◌+◌, ◌<◌, cond, List, [], ◌∷◌, ◌++◌, length, map, take, reverse, Option, Some, None, Bool, true, false, refl, sym, ap, ◌∙◌, subst, inl, inr, ⊎_elim, arith}
use Rattle.std.specs.Prelude.{◌&&◌, nat_le, filter, filter_map, find, flat_map, slice_get}
use Rattle.std.specs.List.{AllZip, cons_option, list_any}
use Rattle.std.proofs.lemmas.Bool.{or_left, or_right, leb-false, lt-leb}
use Rattle.std.proofs.lemmas.List.{reverse-append}
use Rattle.std.proofs.lemmas.List.Elements.{filter-append}
use Rattle.tap_legal.specs.Case.{fails_as, fails_order}
use Rattle.tap_sights.specs.Sight.{In, Ordered}
use Rattle.tap_sights.proofs.Kit.{in_append, in_filter, in_filter_map, in_first, in_map, in_second, none_breaks}

-- ---- lines that are the wanted ones

-- where nothing fails each line is the wanted one
pub paired : {A B : Type 0} (end : ℕ) (same : A → B → Bool) (line : B → ℕ) (ws : List A) (ls : List B)
    → fails_as end same line ws ls ≡ [] → AllZip (λ w l. same w l ≡ true) ws ls
paired end same line [] [] e = tt
paired end same line [] (l ∷ ls) e = absurd (cc (e))
paired end same line (w ∷ ws) [] e = absurd (cc (e))
paired end same line (w ∷ ws) (l ∷ ls) e = go (same w l) refl (λ n. paired end same line ws ls n) e
  where
    go : (b : Bool) → same w l ≡ b → (fails_as end same line ws ls ≡ [] → AllZip (λ x k. same x k ≡ true) ws ls)
        → cond b (fails_as end same line ws ls) (line l ∷ []) ≡ [] → (same w l ≡ true) × AllZip (λ x k. same x k ≡ true) ws ls
    go true is more n = (is, more n)
    go false is more n = absurd (cc (n))

pub is_wanted : {A B : Type 0} (same : A → B → Bool) (ws : List A) (ls : List B) → AllZip (λ w l. same w l ≡ true) ws ls
    → (l : B) → In l ls → list_any (λ w. same w l) ws ≡ true
is_wanted same [] [] z l i = absurd i
is_wanted same [] (k ∷ ls) z l i = absurd z
is_wanted same (w ∷ ws) [] z l i = absurd i
is_wanted same (w ∷ ws) (k ∷ ls) z l (inl is) =
    or_left (same w l) (list_any (λ x. same x l) ws) (subst (λ x. same w x ≡ true) is z.0)
is_wanted same (w ∷ ws) (k ∷ ls) z l (inr i) = or_right (same w l) (list_any (λ x. same x l) ws) (is_wanted same ws ls z.1 l i)

pub is_there : {A B : Type 0} (same : A → B → Bool) (ws : List A) (ls : List B) → AllZip (λ w l. same w l ≡ true) ws ls
    → (w : A) → In w ws → list_any (same w) ls ≡ true
is_there same [] ls z w i = absurd i
is_there same (x ∷ ws) [] z w i = absurd z
is_there same (x ∷ ws) (l ∷ ls) z w (inl is) = or_left (same w l) (list_any (same w) ls) (subst (λ y. same y l ≡ true) is z.0)
is_there same (x ∷ ws) (l ∷ ls) z w (inr i) = or_right (same w l) (list_any (same w) ls) (is_there same ws ls z.1 w i)

-- what is found is the one that passes
pub finds : {A : Type 0} (test : A → Bool) (xs : List A) (x : A) → In x xs → test x ≡ true → ((y : A) → In y xs → test y ≡ true → y ≡ x)
    → find test xs ≡ Some x
finds test [] x i e only = absurd i
finds {A} test (y ∷ ys) x i e only = go (test y) refl i (λ j. finds test ys x j e (λ z k. only z (inr k)))
  where
    go : (b : Bool) → test y ≡ b → In x (y ∷ ys) → (In x ys → find test ys ≡ Some x) → cond b (Some y) (find test ys) ≡ Some x
    go true is k more = ap Some (only y (inl refl) is)
    go false is (inl same) more = absurd (cc (is, same, e))
    go false is (inr k) more = more k

-- ---- orders

pub order_with : {A : Type 0} (R : A → A → Type 0) (P : A → Type 0) (xs : List A) → ((x : A) → In x xs → P x) → Ordered R xs
    → Ordered (λ x y. P x × P y × R x y) xs
order_with R P [] each h = tt
order_with R P (x ∷ xs) each h =
    (λ y i. (each x (inl refl), each y (inr i), h.0 y i), order_with R P xs (λ y i. each y (inr i)) h.1)

pub order_weaker : {A : Type 0} (R Q : A → A → Type 0) (xs : List A) → ((x y : A) → R x y → Q x y) → Ordered R xs → Ordered Q xs
order_weaker R Q [] law h = tt
order_weaker R Q (x ∷ xs) law h = (λ y i. law x y (h.0 y i), order_weaker R Q xs law h.1)

-- lines that agree where one stands before the other
pub none_breaks_in : {A : Type 0} (line : A → ℕ) (agrees : A → A → Bool) (R : A → A → Type 0) (xs : List A)
    → ((x y : A) → In x xs → In y xs → R x y → agrees x y ≡ true) → Ordered R xs → fails_order line agrees xs ≡ []
none_breaks_in line agrees R xs law h =
    none_breaks line agrees (λ x y. In x xs × In y xs × R x y) xs (λ x y k. law x y k.0 k.1 k.2) (order_with R (λ x. In x xs) xs (λ x i. i) h)

pub order_append : {A : Type 0} (R : A → A → Type 0) (xs ys : List A) → Ordered R xs → Ordered R ys
    → ((x y : A) → In x xs → In y ys → R x y) → Ordered R (xs ++ ys)
order_append R [] ys h k law = k
order_append R (x ∷ xs) ys h k law = (
  λ y i. ⊎_elim (λ j. h.0 y j) (λ j. law x y (inl refl) j) (in_append y xs ys i),
  order_append R xs ys h.1 k (λ a b i j. law a b (inr i) j),
)

pub in_flat : {A B : Type 0} (f : A → List B) (xs : List A) (y : B) → In y (flat_map f xs) → (x : A) × In x xs × In y (f x)
in_flat f [] y i = absurd i
in_flat f (x ∷ xs) y i = ⊎_elim
    (λ j. (x, inl refl, j))
    (λ j. let r = in_flat f xs y j in (r.0, inr r.1, r.2))
    (in_append y (f x) (flat_map f xs) i)

pub order_flat : {A B : Type 0} (Q : A → A → Type 0) (R : B → B → Type 0) (f : A → List B) (xs : List A)
    → ((x : A) → In x xs → Ordered R (f x)) → ((x y : A) → Q x y → (a b : B) → In a (f x) → In b (f y) → R a b) → Ordered Q xs
    → Ordered R (flat_map f xs)
order_flat Q R f [] each across h = tt
order_flat Q R f (x ∷ xs) each across h =
    order_append R (f x) (flat_map f xs) (each x (inl refl)) (order_flat Q R f xs (λ y i. each y (inr i)) across h.1)
    (λ a b i j. let r = in_flat f xs b j in across x r.0 (h.0 r.0 r.1) a b i r.2)

pub order_filter : {A : Type 0} (R : A → A → Type 0) (test : A → Bool) (xs : List A) → Ordered R xs → Ordered R (filter test xs)
order_filter R test [] h = tt
order_filter R test (x ∷ xs) h = go (test x) (order_filter R test xs h.1)
  where
    go : (b : Bool) → Ordered R (filter test xs) → Ordered R (cond b (x ∷ filter test xs) (filter test xs))
    go true k = (λ y i. h.0 y (in_filter test xs y i).0, k)
    go false k = k

pub order_map : {A B : Type 0} (R : B → B → Type 0) (f : A → B) (xs : List A) → Ordered (λ x y. R (f x) (f y)) xs → Ordered R (map f xs)
order_map R f [] h = tt
order_map R f (x ∷ xs) h =
    (λ y i. let r = in_map f xs y i in subst (λ z. R (f x) z) r.2 (h.0 r.0 r.1), order_map R f xs h.1)

pub order_filter_map : {A B : Type 0} (Q : A → A → Type 0) (R : B → B → Type 0) (f : A → Option B) (xs : List A)
    → ((x y : A) (a b : B) → Q x y → f x ≡ Some a → f y ≡ Some b → R a b) → Ordered Q xs → Ordered R (filter_map f xs)
order_filter_map Q R f [] law h = tt
order_filter_map {A} {B} Q R f (x ∷ xs) law h = go (f x) refl (order_filter_map Q R f xs law h.1)
  where
    go : (w : Option B) → f x ≡ w → Ordered R (filter_map f xs) → Ordered R (cons_option w (filter_map f xs))
    go None is k = k
    go (Some a) is k = (λ b i. let r = in_filter_map f xs b i in law x r.0 a b (h.0 r.0 r.1) is r.2, k)

-- numbers that go up one by one rise
pub at_in : {A : Type 0} (xs : List A) (x : A) → In x xs → (i : ℕ) × (slice_get xs i ≡ Some x)
at_in [] x i = absurd i
at_in (y ∷ ys) x (inl is) = (0, ap Some is)
at_in (y ∷ ys) x (inr i) = let r = at_in ys x i in (suc r.0, r.1)

pub order_at : {A : Type 0} (number : A → ℕ) (from : ℕ) (xs : List A) → ((i : ℕ) (x : A) → slice_get xs i ≡ Some x → number x ≡ from + i)
    → Ordered (λ x y. number x < number y) xs
order_at number from [] each = tt
order_at number from (x ∷ xs) each = (
  λ y i.
      let r = at_in xs y i in
      let h = each 0 x refl in
      let k = each (suc r.0) y r.1 in
      omega (arith, h, k),
  order_at number (from + 1) xs (λ i y e. let h = each (suc i) y e in omega (arith, h)),
)

pub in_filter_map_of : {A B : Type 0} (f : A → Option B) (xs : List A) (x : A) (y : B) → In x xs → f x ≡ Some y → In y (filter_map f xs)
in_filter_map_of f [] x y i e = absurd i
in_filter_map_of f (z ∷ zs) x y (inl is) e = subst (λ w. In y (cons_option w (filter_map f zs))) (sym (ap f is ∙ e)) (inl refl)
in_filter_map_of {A} {B} f (z ∷ zs) x y (inr i) e = go (f z) (in_filter_map_of f zs x y i e)
  where
    go : (w : Option B) → In y (filter_map f zs) → In y (cons_option w (filter_map f zs))
    go None j = j
    go (Some b) j = inr j

-- ---- the other way round

back_first : {A : Type 0} (x : A) (xs : List A) → reverse (x ∷ xs) ≡ reverse xs ++ (x ∷ [])
back_first x xs = reverse-append (x ∷ []) xs

pub in_reverse : {A : Type 0} (x : A) (xs : List A) → In x (reverse xs) → In x xs
in_reverse x [] i = i
in_reverse x (y ∷ ys) i = ⊎_elim
    (λ j. inr (in_reverse x ys j))
    (λ j. one j)
    (in_append x (reverse ys) (y ∷ []) (subst (In x) (back_first y ys) i))
  where
    one : In x (y ∷ []) → In x (y ∷ ys)
    one (inl is) = inl is
    one (inr z) = absurd z

pub in_reverse_of : {A : Type 0} (x : A) (xs : List A) → In x xs → In x (reverse xs)
in_reverse_of x [] i = i
in_reverse_of x (y ∷ ys) (inl is) = subst (In x) (sym (back_first y ys)) (in_second x (reverse ys) (y ∷ []) (inl is))
in_reverse_of x (y ∷ ys) (inr i) = subst (In x) (sym (back_first y ys)) (in_first x (reverse ys) (y ∷ []) (in_reverse_of x ys i))

pub order_reverse : {A : Type 0} (R : A → A → Type 0) (xs : List A) → Ordered R xs → Ordered (λ x y. R y x) (reverse xs)
order_reverse R [] h = tt
order_reverse R (x ∷ xs) h =
    subst (Ordered (λ a b. R b a)) (sym (back_first x xs))
    (order_append (λ a b. R b a) (reverse xs) (x ∷ []) (order_reverse R xs h.1) (λ y i. absurd i, tt) (λ a b i j. last a b i j))
  where
    last : (a b : _) → In a (reverse xs) → In b (x ∷ []) → R b a
    last a b i (inl is) = subst (λ z. R z a) is (h.0 a (in_reverse a xs i))
    last a b i (inr z) = absurd z

-- ---- what passes

pub filter_both : {A : Type 0} (p q : A → Bool) (xs : List A) → filter p (filter q xs) ≡ filter (λ x. q x && p x) xs
filter_both p q [] = refl
filter_both p q (x ∷ xs) = go (q x) (filter_both p q xs)
  where
    keep : (b : Bool) → filter p (filter q xs) ≡ filter (λ y. q y && p y) xs
        → cond b (x ∷ filter p (filter q xs)) (filter p (filter q xs)) ≡ cond b (x ∷ filter (λ y. q y && p y) xs) (filter (λ y. q y && p y) xs)
    keep true e = ap (λ ys. x ∷ ys) e
    keep false e = e

    go : (b : Bool) → filter p (filter q xs) ≡ filter (λ y. q y && p y) xs
        → filter p (cond b (x ∷ filter q xs) (filter q xs)) ≡ cond (b && p x) (x ∷ filter (λ y. q y && p y) xs) (filter (λ y. q y && p y) xs)
    go true e = keep (p x) e
    go false e = e

pub filter_mapped : {A B : Type 0} (p : B → Bool) (f : A → B) (xs : List A) → filter p (map f xs) ≡ map f (filter (λ x. p (f x)) xs)
filter_mapped p f [] = refl
filter_mapped p f (x ∷ xs) = go (p (f x)) (filter_mapped p f xs)
  where
    go : (b : Bool) → filter p (map f xs) ≡ map f (filter (λ y. p (f y)) xs)
        → cond b (f x ∷ filter p (map f xs)) (filter p (map f xs)) ≡ map f (cond b (x ∷ filter (λ y. p (f y)) xs) (filter (λ y. p (f y)) xs))
    go true e = ap (λ ys. f x ∷ ys) e
    go false e = e

pub filter_same : {A : Type 0} (p q : A → Bool) (xs : List A) → ((x : A) → In x xs → p x ≡ q x) → filter p xs ≡ filter q xs
filter_same p q [] each = refl
filter_same p q (x ∷ xs) each =
    ap (λ b. cond b (x ∷ filter p xs) (filter p xs)) (each x (inl refl))
    ∙ ap (λ ys. cond (q x) (x ∷ ys) ys) (filter_same p q xs (λ y i. each y (inr i)))

filter_one : {A : Type 0} (p : A → Bool) (x : A) (ys : List A) → reverse ys ++ filter p (x ∷ []) ≡ reverse (cond (p x) (x ∷ ys) ys)
filter_one p x ys = go (p x)
  where
    go : (b : Bool) → reverse ys ++ cond b (x ∷ []) [] ≡ reverse (cond b (x ∷ ys) ys)
    go true = sym (back_first x ys)
    go false = sym (reverse-append [] ys)

pub filter_reverse : {A : Type 0} (p : A → Bool) (xs : List A) → filter p (reverse xs) ≡ reverse (filter p xs)
filter_reverse p [] = refl
filter_reverse p (x ∷ xs) =
    ap (filter p) (back_first x xs) ∙ filter-append p (reverse xs) (x ∷ [])
    ∙ ap (λ ys. ys ++ filter p (x ∷ [])) (filter_reverse p xs) ∙ filter_one p x (filter p xs)

pub filter_none : {A : Type 0} (p : A → Bool) (xs : List A) → ((x : A) → In x xs → p x ≡ false) → filter p xs ≡ []
filter_none p [] each = refl
filter_none p (x ∷ xs) each =
    ap (λ b. cond b (x ∷ filter p xs) (filter p xs)) (each x (inl refl)) ∙ filter_none p xs (λ y i. each y (inr i))

-- of the numbers of some elements, the last first, those that pass two tests
pub kept_numbers : {A : Type 0} (number : A → ℕ) (t m : A → Bool) (p q : ℕ → Bool) (xs : List A)
    → ((x : A) → In x xs → (t x && (p (number x) && q (number x))) ≡ m x)
    → filter q (filter p (reverse (map number (filter t xs)))) ≡ reverse (map number (filter m xs))
kept_numbers number t m p q xs each =
    filter_both q p (reverse (map number (filter t xs)))
    ∙ filter_reverse (λ n. p n && q n) (map number (filter t xs))
    ∙ ap reverse (filter_mapped (λ n. p n && q n) number (filter t xs)
    ∙ ap (map number) (filter_both (λ x. p (number x) && q (number x)) t xs
    ∙ filter_same (λ x. t x && (p (number x) && q (number x))) m xs each))

abbrev pub IsFalling : ℕ → ℕ → Type 0
IsFalling p q = q < p

-- of numbers that fall, so many as are at least this one are the first ones
pub take_high : (low : ℕ) (xs : List ℕ) → Ordered IsFalling xs
    → take (length (filter (λ p. nat_le low p) xs)) xs ≡ filter (λ p. nat_le low p) xs
take_high low [] h = refl
take_high low (x ∷ xs) h = go (nat_le low x) refl (take_high low xs h.1)
  where
    go : (b : Bool) → nat_le low x ≡ b → take (length (filter (λ p. nat_le low p) xs)) xs ≡ filter (λ p. nat_le low p) xs
        → take (length (cond b (x ∷ filter (λ p. nat_le low p) xs) (filter (λ p. nat_le low p) xs))) (x ∷ xs)
        ≡ cond b (x ∷ filter (λ p. nat_le low p) xs) (filter (λ p. nat_le low p) xs)
    go true is e = ap (λ ys. x ∷ ys) e
    go false is e =
        subst (λ ys. take (length ys) (x ∷ xs) ≡ ys)
        (sym (filter_none (λ p. nat_le low p) xs (λ y i.
        let l = h.0 y i in
        let m = leb-false low x is in
        lt-leb low y (omega (arith, l, m))))) refl
