-- Lists of lines, and tests over them.
use Rattle.std.proofs.Common.{◌≡◌, ◌⊎◌, ℕ, zero, suc, ◌+◌, ◌-◌, ◌≤◌, ◌<◌, cond, List, [], ◌∷◌, ◌++◌, length, map, Option, Some, None, Bool, true, false, refl, sym, ap, ◌∙◌, subst, inl, inr, ⊎_elim, true≢false, arith}
use Rattle.std.specs.Prelude.{◌||◌, not, max, filter, filter_map, find, flat_map, slice_get}
use Rattle.std.specs.List.{cons_option, list_all, list_any}
use Rattle.std.proofs.lemmas.Bool.{and_from, or_left, or_right, or_from, cases_Bool, cases_lt}
use Rattle.tap_legal.specs.Numbered.{AnswerAt, EntryAt, OpAt, Told, entries_from}
use Rattle.tap_trace.specs.declared.trace.PlaceLine.{PlaceLine}
use Rattle.tap_legal.specs.Case.{fails_after, fails_each, fails_order}
use Rattle.tap_legal.specs.Lookups.{greatest, is_own_next, last_seen, some_version, versions}
use Rattle.tap_sights.specs.Sight.{In, Ordered}

pub some_same : {A : Type 0} (x y : A) → Some x ≡ Some y → x ≡ y
some_same x y e = cc (e)

-- ---- where nothing fails

pub both_none : {A : Type 0} (xs ys : List A) → xs ≡ [] → ys ≡ [] → (xs ++ ys) ≡ []
both_none xs ys e f = rw (e, f) refl

pub none_fails : {A : Type 0} (line : A → ℕ) (test : A → Bool) (xs : List A)
    → ((x : A) → In x xs → test x ≡ true) → fails_each line test xs ≡ []
none_fails line test [] each = refl
none_fails line test (x ∷ xs) each = rw (each x (inl refl)) (none_fails line test xs (λ y i. each y (inr i)))

pub none_mapped : {A B : Type 0} (f : A → List B) (xs : List A) → ((x : A) → In x xs → f x ≡ []) → flat_map f xs ≡ []
none_mapped f [] each = refl
none_mapped f (x ∷ xs) each = both_none (f x) (flat_map f xs) (each x (inl refl)) (none_mapped f xs (λ y i. each y (inr i)))

pub all_hold : {A : Type 0} (test : A → Bool) (xs : List A) → ((x : A) → In x xs → test x ≡ true) → list_all test xs ≡ true
all_hold test [] each = refl
all_hold test (x ∷ xs) each = and_from (test x) (list_all test xs) (each x (inl refl)) (all_hold test xs (λ y i. each y (inr i)))

pub none_any : {A : Type 0} (test : A → Bool) (xs : List A) → ((x : A) → In x xs → test x ≡ false) → list_any test xs ≡ false
none_any test [] each = refl
none_any test (x ∷ xs) each = or_from (test x) (list_any test xs) (each x (inl refl)) (none_any test xs (λ y i. each y (inr i)))

pub any_in : {A : Type 0} (test : A → Bool) (xs : List A) (x : A) → In x xs → test x ≡ true → list_any test xs ≡ true
any_in test [] x i e = absurd i
any_in test (y ∷ ys) x (inl is) e = or_left (test y) (list_any test ys) (ap test is ∙ e)
any_in test (y ∷ ys) x (inr i) e = or_right (test y) (list_any test ys) (any_in test ys x i e)

-- an element that passes
pub which : {A : Type 0} (test : A → Bool) (xs : List A) → list_any test xs ≡ true → (x : A) × In x xs × (test x ≡ true)
which test [] e = absurd (true≢false (sym e))
which test (y ∷ ys) e = ⊎_elim
    (λ is. (y, inl refl, is))
    (λ is. let r = which test ys (subst (λ b. (b || list_any test ys) ≡ true) is e) in (r.0, inr r.1, r.2))
    (cases_Bool (test y))

none_after : {A : Type 0} (line : A → ℕ) (agrees : A → A → Bool) (R : A → A → Type 0) (earlier xs : List A)
    → ((x y : A) → R x y → agrees x y ≡ true) → ((x y : A) → In x earlier → In y xs → agrees x y ≡ true) → Ordered R xs
    → fails_after line agrees earlier xs ≡ []
none_after line agrees R earlier [] law each o = refl
none_after line agrees R earlier (x ∷ xs) law each o =
    rw (none_any (λ e. not (agrees e x)) earlier (λ e i. ap not (each e x i (inl refl))))
    (none_after line agrees R (x ∷ earlier) xs law (λ e y i j. next e y i j) o.1)
  where
    next : (e y : _) → In e (x ∷ earlier) → In y xs → agrees e y ≡ true
    next e y (inl is) j = law e y (subst (λ z. R z y) is (o.0 y j))
    next e y (inr i) j = each e y i (inr j)

pub none_breaks : {A : Type 0} (line : A → ℕ) (agrees : A → A → Bool) (R : A → A → Type 0) (xs : List A)
    → ((x y : A) → R x y → agrees x y ≡ true) → Ordered R xs → fails_order line agrees xs ≡ []
none_breaks line agrees R xs law o = none_after line agrees R [] xs law (λ x y i j. absurd i) o

-- of two elements one is the other, or stands before it
pub in_order : {A : Type 0} (R : A → A → Type 0) (xs : List A) (x y : A) → Ordered R xs → In x xs → In y xs
    → (x ≡ y) ⊎ R x y ⊎ R y x
in_order R [] x y o i j = absurd i
in_order R (z ∷ zs) x y o (inl is) (inl js) = inl (sym is ∙ js)
in_order R (z ∷ zs) x y o (inl is) (inr j) = inr (inl (subst (λ w. R w y) is (o.0 y j)))
in_order R (z ∷ zs) x y o (inr i) (inl js) = inr (inr (subst (λ w. R w x) js (o.0 x i)))
in_order R (z ∷ zs) x y o (inr i) (inr j) = in_order R zs x y o.1 i j

-- ---- elements

pub in_append : {A : Type 0} (x : A) (xs ys : List A) → In x (xs ++ ys) → In x xs ⊎ In x ys
in_append x [] ys i = inr i
in_append x (z ∷ zs) ys (inl is) = inl (inl is)
in_append x (z ∷ zs) ys (inr i) = ⊎_elim (λ u. inl (inr u)) (λ u. inr u) (in_append x zs ys i)

pub in_filter : {A : Type 0} (test : A → Bool) (xs : List A) (x : A) → In x (filter test xs) → In x xs × (test x ≡ true)
in_filter test [] x i = absurd i
in_filter test (y ∷ ys) x i = go (test y) refl (λ j. in_filter test ys x j) i
  where
    go : (b : Bool) → test y ≡ b → (In x (filter test ys) → In x ys × (test x ≡ true))
        → In x (cond b (y ∷ filter test ys) (filter test ys)) → In x (y ∷ ys) × (test x ≡ true)
    go true is more (inl e) = (inl e, subst (λ z. test z ≡ true) e is)
    go true is more (inr j) = let r = more j in (inr r.0, r.1)
    go false is more j = let r = more j in (inr r.0, r.1)

pub in_map : {A B : Type 0} (f : A → B) (xs : List A) (y : B) → In y (map f xs) → (x : A) × In x xs × (f x ≡ y)
in_map f [] y i = absurd i
in_map f (x ∷ xs) y (inl e) = (x, inl refl, e)
in_map f (x ∷ xs) y (inr i) = let r = in_map f xs y i in (r.0, inr r.1, r.2)

pub in_filter_map : {A B : Type 0} (f : A → Option B) (xs : List A) (y : B) → In y (filter_map f xs) → (x : A) × In x xs × (f x ≡ Some y)
in_filter_map f [] y i = absurd i
in_filter_map {A} {B} f (x ∷ xs) y i = go (f x) refl (λ j. in_filter_map f xs y j) i
  where
    go : (o : Option B) → f x ≡ o → (In y (filter_map f xs) → (z : A) × In z xs × (f z ≡ Some y))
        → In y (cons_option o (filter_map f xs)) → (z : A) × In z (x ∷ xs) × (f z ≡ Some y)
    go None is more j = let r = more j in (r.0, inr r.1, r.2)
    go (Some z) is more (inl e) = (x, inl refl, is ∙ ap Some e)
    go (Some z) is more (inr j) = let r = more j in (r.0, inr r.1, r.2)

pub in_at : {A : Type 0} (xs : List A) (i : ℕ) (x : A) → slice_get xs i ≡ Some x → In x xs
in_at [] i x e = absurd (cc (e))
in_at (y ∷ ys) zero x e = inl (some_same y x e)
in_at (y ∷ ys) (suc i) x e = inr (in_at ys i x e)

pub there_is : {A : Type 0} (n : ℕ) (xs : List A) → n < length xs → (x : A) × (slice_get xs n ≡ Some x)
there_is n [] lt = absurd (omega (arith, lt))
there_is zero (x ∷ xs) lt = (x, refl)
there_is (suc n) (x ∷ xs) lt = there_is n xs (omega (arith, lt))

-- ---- filters and tests

pub any_of_none : {A : Type 0} (test : A → Bool) (xs : List A) → filter test xs ≡ [] → list_any test xs ≡ false
any_of_none test [] e = refl
any_of_none test (x ∷ xs) e = go (test x) refl (λ n. any_of_none test xs n) e
  where
    go : (b : Bool) → test x ≡ b → (filter test xs ≡ [] → list_any test xs ≡ false)
        → cond b (x ∷ filter test xs) (filter test xs) ≡ [] → (test x || list_any test xs) ≡ false
    go true is more n = absurd (cc (n))
    go false is more n = or_from (test x) (list_any test xs) is (more n)

pub any_of_some : {A : Type 0} (test : A → Bool) (xs : List A) (y : A) (ys : List A) → filter test xs ≡ y ∷ ys → list_any test xs ≡ true
any_of_some test xs y ys e =
    let i : In y (filter test xs) = subst (In y) (sym e) (inl refl) in
    let r = in_filter test xs y i in
    any_in test xs y r.0 r.1

-- ---- versions

pub greatest_to : (test : OpAt → Bool) (os : List OpAt) (n : ℕ) → ((o : OpAt) → In o os → test o ≡ true → o.at.version ≤ n) → greatest test os ≤ n
greatest_to test [] n each = omega arith
greatest_to test (o ∷ os) n each =
    let h = greatest_to test os n (λ p i. each p (inr i)) in
    let g = one (test o) o.at.version (each o (inl refl)) in
    omega (arith, g, h)
  where
    one : (b : Bool) (v : ℕ) → (b ≡ true → v ≤ n) → cond b v 0 ≤ n
    one false v e = omega arith
    one true v e = let l = e refl in l

pub greatest_from : (test : OpAt → Bool) (os : List OpAt) (o : OpAt) → In o os → test o ≡ true → o.at.version ≤ greatest test os
greatest_from test [] o i e = absurd i
greatest_from test (p ∷ os) o (inl is) e =
    subst (λ q. q.at.version ≤ max (cond (test p) p.at.version 0) (greatest test os)) is
    (rw (ap test is ∙ e) (omega arith))
greatest_from test (p ∷ os) o (inr i) e = let h = greatest_from test os o i e in omega (arith, h)

in_versions : (test : ℕ → Bool) (low n v : ℕ) → low ≤ v → v < low + n → test v ≡ true → list_any test (versions low n) ≡ true
in_versions test low zero v from to e = absurd (omega (arith, from, to))
in_versions test low (suc n) v from to e = ⊎_elim
    (λ above. or_right (test low) (list_any test (versions (low + 1) n))
    (in_versions test (low + 1) n v (omega (arith, above)) (omega (arith, to)) e))
    (λ le. let same : low ≡ v = omega (arith, from, le) in
    or_left (test low) (list_any test (versions (low + 1) n)) (ap test same ∙ e))
    (cases_lt low v)

pub some_is : (test : ℕ → Bool) (low high v : ℕ) → low ≤ v → v ≤ high → test v ≡ true → some_version low high test ≡ true
some_is test low high v from to e = in_versions test low (high + 1 - low) v from (omega (arith, from, to)) e

-- the last SEEN of an actor before a command
pub last_to : (t : Told) (as_ : List AnswerAt) (n m : ℕ) → n ≤ m
    → ((a : AnswerAt) → In a as_ → is_own_next a.told t ≡ true → a.seen ≤ m) → last_seen t n as_ ≤ m
last_to t [] n m le each = le
last_to t (a ∷ as_) n m le each =
    last_to t as_ (cond (is_own_next a.told t) a.seen n) m (one (is_own_next a.told t) (each a (inl refl))) (λ x j. each x (inr j))
  where
    one : (b : Bool) → (b ≡ true → a.seen ≤ m) → cond b a.seen n ≤ m
    one true e = e refl
    one false e = le

-- ---- elements that are found

pub found : {A : Type 0} (test : A → Bool) (xs : List A) (x : A) → find test xs ≡ Some x → In x xs
found test [] x e = absurd (cc (e))
found test (y ∷ ys) x e = ⊎_elim
    (λ is. inl (cc (e, is)))
    (λ is. inr (found test ys x (cc (e, is))))
    (cases_Bool (test y))

pub passes : {A : Type 0} (test : A → Bool) (xs : List A) (x : A) → find test xs ≡ Some x → test x ≡ true
passes test [] x e = absurd (cc (e))
passes test (y ∷ ys) x e = ⊎_elim
    (λ is. subst (λ z. test z ≡ true) (cc (e, is)) is)
    (λ is. passes test ys x (cc (e, is)))
    (cases_Bool (test y))

pub in_map_of : {A B : Type 0} (f : A → B) (xs : List A) (x : A) → In x xs → In (f x) (map f xs)
in_map_of f [] x i = absurd i
in_map_of f (y ∷ ys) x (inl e) = inl (ap f e)
in_map_of f (y ∷ ys) x (inr i) = inr (in_map_of f ys x i)

pub in_filter_of : {A : Type 0} (test : A → Bool) (xs : List A) (x : A) → In x xs → test x ≡ true → In x (filter test xs)
in_filter_of test [] x i e = absurd i
in_filter_of test (y ∷ ys) x (inl is) e = rw (ap test is ∙ e) (inl is)
in_filter_of {A} test (y ∷ ys) x (inr i) e = go (test y) (in_filter_of test ys x i e)
  where
    go : (b : Bool) → In x (filter test ys) → In x (cond b (y ∷ filter test ys) (filter test ys))
    go true j = inr j
    go false j = j

pub in_first : {A : Type 0} (x : A) (xs ys : List A) → In x xs → In x (xs ++ ys)
in_first x [] ys i = absurd i
in_first x (z ∷ zs) ys (inl e) = inl e
in_first x (z ∷ zs) ys (inr i) = inr (in_first x zs ys i)

pub in_second : {A : Type 0} (x : A) (xs ys : List A) → In x ys → In x (xs ++ ys)
in_second x [] ys i = i
in_second x (z ∷ zs) ys i = inr (in_second x zs ys i)

pub in_flat_map : {A B : Type 0} (f : A → List B) (xs : List A) (x : A) (y : B) → In x xs → In y (f x) → In y (flat_map f xs)
in_flat_map f [] x y i j = absurd i
in_flat_map f (z ∷ zs) x y (inl e) j = in_first y (f z) (flat_map f zs) (subst (λ w. In y (f w)) (sym e) j)
in_flat_map f (z ∷ zs) x y (inr i) j = in_second y (f z) (flat_map f zs) (in_flat_map f zs x y i j)

pub in_entries : (line file : ℕ) (ls : List PlaceLine) (n : ℕ) (l : PlaceLine) → slice_get ls n ≡ Some l
    → (e : EntryAt) × In e (entries_from line file ls) × (e.file ≡ file) × (e.at ≡ l)
in_entries line file [] n l e = absurd (cc (e))
in_entries line file (k ∷ ks) zero l e = (record { line = line; file = file; at = k }, inl refl, refl, some_same k l e)
in_entries line file (k ∷ ks) (suc n) l e =
    let r = in_entries (line + 1) file ks n l e in
    (r.0, inr r.1, r.2, r.3)
