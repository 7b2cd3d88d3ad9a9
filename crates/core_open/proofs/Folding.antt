-- A list that is gone through.
use Rattle.std.proofs.Common.{◌≡◌, ℕ, ◌+◌, ◌<◌, List, [], ◌∷◌, ◌++◌, fold, get_or, length, map, take, Option, Some, None, IfSome, refl, sym, ap, ◌∙◌}
use Rattle.std.proofs.lemmas.List.{map_more, take_more}
use Rattle.tap_world.specs.ByNumber.{at}
use Rattle.core_open.proofs.Putting.{at_place}

fold_push : {A B : Type 0} (f : B → A → B) (b : B) (xs : List A) (x : A) → fold f b (xs ++ x ∷ []) ≡ f (fold f b xs) x
fold_push f b [] x = refl
fold_push f b (y ∷ ys) x = fold_push f (f b y) ys x

-- one step more of a fold
pub fold_more : {A B : Type 0} (f : B → A → B) (b : B) (xs : List A) (i : ℕ) (x : A) → i < length xs → x ≡ get_or xs i x
    → fold f b (take (i + 1) xs) ≡ f (fold f b (take i xs)) x
fold_more f b xs i x lt is =
    ap (fold f b) (take_more xs i x lt) ∙ fold_push f b (take i xs) (get_or xs i x) ∙ ap (λ y. f (fold f b (take i xs)) y) (sym is)

-- one item more of a map
pub mapped_more : {A B : Type 0} (f : A → B) (xs : List A) (ys zs : List B) (i : ℕ) (x : A) → i < length xs → x ≡ get_or xs i x
    → ys ≡ map f (take i xs) → zs ≡ ys ++ f x ∷ [] → zs ≡ map f (take (i + 1) xs)
mapped_more f xs ys zs i x lt is so_far new =
    new ∙ ap (λ ts. ts ++ f x ∷ []) so_far ∙ ap (λ y. map f (take i xs) ++ f y ∷ []) is ∙ sym (map_more f xs i x lt)

some_here : {A : Type 0} (P : A → Type 0) (o : Option A) → ((y : A) → o ≡ Some y → P y) → IfSome o P
some_here P None h = tt
some_here P (Some y) h = h y refl

-- what is so of all that have numbers is so of one in its place
pub each_here : {A : Type 0} (P : A → Type 0) (xs : List (Option A)) (i : ℕ) (x : Option A) → i < length xs → x ≡ get_or xs i x
    → ((n : ℕ) (y : A) → at xs n ≡ Some y → P y) → IfSome x P
each_here P xs i x lt is h = some_here P x (λ y e. h i y (sym (is ∙ at_place xs i x lt) ∙ e))
