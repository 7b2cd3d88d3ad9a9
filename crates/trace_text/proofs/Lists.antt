-- Lists whose last item changes or that get one more, options that are made from others, and orders.
use Rattle.std.proofs.Common.{◌≡◌, Bool, true, false, ◌&&◌, if◌then◌else◌, List, [], ◌∷◌, ◌++◌, Option, Some, None, refl, sym, ◌∙◌, ap, subst, append_assoc}
use Rattle.std.specs.List.{AllByRecursion, flat_map}
use Rattle.std.specs.Option.{option_map}
use Rattle.std.proofs.lemmas.Bool.{and_from, and_parts}
use Rattle.std.proofs.lemmas.Grind.{flat_map-append}
use Rattle.std.proofs.lemmas.List.{append-nil}
use Rattle.trace_text.specs.Building.{and_item, last_item, may_follow, none_yet, with_last}
use Rattle.trace_text.specs.Ordered.{rises}

-- ---- options

pub some_is : {A : Type 0} (x y : A) → Some x ≡ Some y → x ≡ y
some_is x y e = cc

-- what is mapped comes from something
pub made_by : {A B : Type 0} (g : A → B) (o : Option A) (y : B) (P : B → Type 0) → option_map g o ≡ Some y → ((x : A) → o ≡ Some x → P (g x)) → P y
made_by g None y P e k = absurd cc
made_by g (Some x) y P e k = subst P (some_is (g x) y e) (k x refl)

-- one item more was added, and the test let it
pub item_by : {A : Type 0} (b : Bool) (xs : List A) (x : A) (ys : List A) (P : List A → Type 0) → and_item b xs x ≡ Some ys → (b ≡ true → P (xs ++ x ∷ [])) → P ys
item_by true xs x ys P e k = subst P (some_is (xs ++ x ∷ []) ys e) (k refl)
item_by false xs x ys P e k = absurd cc

-- the test held
pub chosen_by : {A : Type 0} (b : Bool) (o : Option A) (y : A) (P : Type 0) → (if b then o else None) ≡ Some y → (b ≡ true → o ≡ Some y → P) → P
chosen_by true o y P e k = k refl e
chosen_by false o y P e k = absurd cc

pub option_map-map : {A B C : Type 0} (g : B → C) (h : A → B) (o : Option A) → option_map g (option_map h o) ≡ option_map (λ x. g (h x)) o
option_map-map g h None = refl
option_map-map g h (Some x) = refl

-- ---- the last item

pub is_none : {A : Type 0} (xs : List A) → none_yet xs ≡ true → xs ≡ []
is_none [] e = refl
is_none (x ∷ xs) e = absurd cc

pub none_yet-push : {A : Type 0} (xs : List A) (x : A) → none_yet (xs ++ x ∷ []) ≡ false
none_yet-push [] x = refl
none_yet-push (y ∷ xs) x = refl

pub last_item-push : {A : Type 0} (xs : List A) (x : A) → last_item (xs ++ x ∷ []) ≡ Some x
last_item-push [] x = refl
last_item-push (y ∷ []) x = refl
last_item-push (y ∷ z ∷ xs) x = last_item-push (z ∷ xs) x

pub with_last-push : {A : Type 0} (f : A → Option A) (xs : List A) (x : A) → with_last f (xs ++ x ∷ []) ≡ option_map (λ y. xs ++ y ∷ []) (f x)
with_last-push f [] x = refl
with_last-push f (y ∷ []) x = option_map-map (λ ys. y ∷ ys) (λ z. z ∷ []) (f x)
with_last-push f (y ∷ z ∷ xs) x = ap (option_map (λ ys. y ∷ ys)) (with_last-push f (z ∷ xs) x) ∙ option_map-map (λ ys. y ∷ ys) (λ w. z ∷ (xs ++ w ∷ [])) (f x)

-- the last item became another
pub last_by : {A : Type 0} (f : A → Option A) (xs ys : List A) (P : List A → List A → Type 0) → with_last f xs ≡ Some ys
    → ((front : List A) (x y : A) → f x ≡ Some y → P (front ++ x ∷ []) (front ++ y ∷ [])) → P xs ys
last_by f [] ys P e k = absurd cc
last_by f (x ∷ []) ys P e k = made_by (λ y. y ∷ []) (f x) ys (P (x ∷ [])) e (λ y is. k [] x y is)
last_by f (x ∷ y ∷ xs) ys P e k =
    made_by (λ zs. x ∷ zs) (with_last f (y ∷ xs)) ys (P (x ∷ y ∷ xs)) e
    (λ zs is. last_by f (y ∷ xs) zs (λ us vs. P (x ∷ us) (x ∷ vs)) is (λ front u v step. k (x ∷ front) u v step))

-- ---- all items

pub all_push : {A : Type 0} (P : A → Type 0) (xs : List A) (x : A) → AllByRecursion P xs → P x → AllByRecursion P (xs ++ x ∷ [])
all_push P [] x all p = (p, tt)
all_push P (y ∷ xs) x all p = (all.0, all_push P xs x all.1 p)

pub all_front : {A : Type 0} (P : A → Type 0) (xs : List A) (x : A) → AllByRecursion P (xs ++ x ∷ []) → AllByRecursion P xs
all_front P [] x all = tt
all_front P (y ∷ xs) x all = (all.0, all_front P xs x all.1)

pub all_last : {A : Type 0} (P : A → Type 0) (xs : List A) (x : A) → AllByRecursion P (xs ++ x ∷ []) → P x
all_last P [] x all = all.0
all_last P (y ∷ xs) x all = all_last P xs x all.1

-- ---- orders

pub rises_push : {A : Type 0} (before : A → A → Bool) (xs : List A) (y : A) → rises before xs ≡ true → may_follow before xs y ≡ true → rises before (xs ++ y ∷ []) ≡ true
rises_push before [] y r m = refl
rises_push before (x ∷ []) y r m = and_from (before x y) true m refl
rises_push before (x ∷ z ∷ xs) y r m =
    let p = and_parts (before x z) (rises before (z ∷ xs)) r in
    and_from (before x z) (rises before (z ∷ (xs ++ y ∷ []))) p.0 (rises_push before (z ∷ xs) y p.1 m)

pub rises_split : {A : Type 0} (before : A → A → Bool) (xs : List A) (y : A) (ys : List A) → rises before (xs ++ y ∷ ys) ≡ true → may_follow before xs y ≡ true
rises_split before [] y ys r = refl
rises_split before (x ∷ []) y [] r = (and_parts (before x y) true r).0
rises_split before (x ∷ []) y (z ∷ ys) r = (and_parts (before x y) (rises before (y ∷ z ∷ ys)) r).0
rises_split before (x ∷ z ∷ xs) y ys r = rises_split before (z ∷ xs) y ys (and_parts (before x z) (rises before (z ∷ (xs ++ y ∷ ys))) r).1

-- the last item changes, and not its place in the order
pub rises_change : {A : Type 0} (before : A → A → Bool) (xs : List A) (x y : A) → ((z : A) → before z y ≡ before z x) → rises before (xs ++ x ∷ []) ≡ true → rises before (xs ++ y ∷ []) ≡ true
rises_change before [] x y same r = refl
rises_change before (w ∷ []) x y same r = ap (λ b. b && true) (same w) ∙ r
rises_change before (w ∷ z ∷ xs) x y same r =
    let p = and_parts (before w z) (rises before (z ∷ (xs ++ x ∷ []))) r in
    and_from (before w z) (rises before (z ∷ (xs ++ y ∷ []))) p.0 (rises_change before (z ∷ xs) x y same p.1)

-- ---- lists of lines

-- one more behind lists of which the last ones are empty
pub grown : {A : Type 0} (xs ys tail : List A) (s : A) → tail ≡ [] → ys ≡ xs ++ s ∷ [] → ys ++ tail ≡ (xs ++ tail) ++ s ∷ []
grown xs ys tail s none is =
    let plain : ys ++ [] ≡ (xs ++ []) ++ s ∷ [] = append-nil ys ∙ is ∙ ap (λ t. t ++ s ∷ []) (sym (append-nil xs)) in
    let P : List _ → Type 0 = λ t. ys ++ t ≡ (xs ++ t) ++ s ∷ [] in subst P (sym none) plain

-- the same, in front of which something stands
pub grown_behind : {A : Type 0} (front xs ys : List A) (s : A) → ys ≡ xs ++ s ∷ [] → front ++ ys ≡ (front ++ xs) ++ s ∷ []
grown_behind front xs ys s is = ap (λ t. front ++ t) is ∙ sym (append_assoc front xs (s ∷ []))

-- the last part has one line more
pub parts_last : {A B : Type 0} (said : A → List B) (front : List A) (p q : A) (s : B) → said q ≡ said p ++ s ∷ [] → flat_map said (front ++ q ∷ []) ≡ flat_map said (front ++ p ∷ []) ++ s ∷ []
parts_last said [] p q s is = grown (said p) (said q) [] s refl is
parts_last said (r ∷ front) p q s is = grown_behind (said r) (flat_map said (front ++ p ∷ [])) (flat_map said (front ++ q ∷ [])) s (parts_last said front p q s is)

-- there is one more part, of one line
pub parts_push : {A B : Type 0} (said : A → List B) (xs : List A) (x : A) (s : B) → said x ≡ s ∷ [] → flat_map said (xs ++ x ∷ []) ≡ flat_map said xs ++ s ∷ []
parts_push said xs x s is = flat_map-append said xs (x ∷ []) ∙ ap (λ t. flat_map said xs ++ t) (append-nil (said x) ∙ is)
