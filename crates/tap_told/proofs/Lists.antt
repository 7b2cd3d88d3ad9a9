-- Loops that go item by item.
use Rattle.std.proofs.Common.{◌≡◌, ℕ, suc, ◌+◌, ◌<◌, List, [], ◌∷◌, ◌++◌, length, take, drop, get_or, map, Option, Some, None, sym, ap, ◌∙◌, add-zero, add-one, drop-cons, arith}
use Rattle.std.specs.List.{flat_map}
use Rattle.std.proofs.lemmas.List.{take_more, map_push, map-append, append-nil, length-take, length-map}
use Rattle.std.proofs.lemmas.List.Concat.{flat_map-append}
use Rattle.tap_world.specs.ByNumber.{numbered}
use Rattle.tap_trace.specs.declared.trace.PlaceLine.{PlaceLine}
use Rattle.tap_world.specs.declared.line.Entry.{Entry}
use Rattle.tap_world.specs.Line.{fate_of}
use Rattle.tap_world.specs.Project.{place_lines}

-- ---- lists

pub front_is : {X : Type 0} (xs : List X) (i : ℕ) (x d : X) → i < length xs → x ≡ get_or xs i d
    → take (i + 1) xs ≡ take i xs ++ x ∷ []
front_is xs i x d lt is = take_more xs i d lt ∙ ap (λ y. take i xs ++ y ∷ []) (sym is)

-- what is left begins with the next item
pub rest_is : {X : Type 0} (xs : List X) (i : ℕ) (x d : X) → i < length xs → x ≡ get_or xs i d
    → drop i xs ≡ x ∷ drop (i + 1) xs
rest_is xs i x d lt is = drop-cons xs i d lt ∙ ap (λ y. y ∷ drop (suc i) xs) (sym is) ∙ ap (λ k. x ∷ drop k xs) (sym (add-one i))

-- ---- one more item

pub appended : {X Y : Type 0} (f : X → List Y) (now after : List Y) (xs : List X) (i : ℕ) (x d : X)
    → i < length xs → x ≡ get_or xs i d → now ≡ flat_map f (take i xs) → after ≡ now ++ f x → after ≡ flat_map f (take (i + 1) xs)
appended f now after xs i x d lt is so_far new =
    new ∙ ap (λ t. t ++ f x) so_far ∙ ap (λ t. flat_map f (take i xs) ++ t) (sym (append-nil (f x)))
    ∙ sym (flat_map-append f (take i xs) (x ∷ [])) ∙ ap (flat_map f) (sym (front_is xs i x d lt is))

-- ---- by number

numbered-append : {A : Type 0} (n : ℕ) (xs ys : List (Option A)) → numbered n (xs ++ ys) ≡ numbered n xs ++ numbered (n + length xs) ys
numbered-append n [] ys = ap (λ k. numbered k ys) (sym (add-zero n))
numbered-append n (None ∷ xs) ys =
    let place : n + 1 + length xs ≡ n + suc (length xs) = omega arith in
    numbered-append (n + 1) xs ys ∙ ap (λ k. numbered (n + 1) xs ++ numbered k ys) place
numbered-append n (Some x ∷ xs) ys =
    let place : n + 1 + length xs ≡ n + suc (length xs) = omega arith in
    ap (λ t. (n, x) ∷ t) (numbered-append (n + 1) xs ys ∙ ap (λ k. numbered (n + 1) xs ++ numbered k ys) place)

numbered_more : {X A : Type 0} (f : X → Option A) (xs : List X) (i : ℕ) (x d : X) → i < length xs → x ≡ get_or xs i d
    → numbered 0 (map f (take (i + 1) xs)) ≡ numbered 0 (map f (take i xs)) ++ numbered i (f x ∷ [])
numbered_more f xs i x d lt is =
    let front : map f (take (i + 1) xs) ≡ map f (take i xs) ++ f x ∷ [] = ap (map f) (front_is xs i x d lt is) ∙ map_push f (take i xs) x in
    let count : 0 + length (map f (take i xs)) ≡ i = omega (arith, length-map (take i xs) f, length-take i xs) in
    ap (numbered 0) front ∙ numbered-append 0 (map f (take i xs)) (f x ∷ []) ∙ ap (λ k. numbered 0 (map f (take i xs)) ++ numbered k (f x ∷ [])) count

-- the parts of what has the next number
pub told_more : {X A B : Type 0} (f : X → Option A) (g : ℕ × A → B) (now after : List B) (xs : List X) (i : ℕ) (x d : X)
    → i < length xs → x ≡ get_or xs i d → now ≡ map g (numbered 0 (map f (take i xs))) → after ≡ now ++ map g (numbered i (f x ∷ []))
    → after ≡ map g (numbered 0 (map f (take (i + 1) xs)))
told_more f g now after xs i x d lt is so_far new =
    new ∙ ap (λ t. t ++ map g (numbered i (f x ∷ []))) so_far ∙ sym (map-append g (numbered 0 (map f (take i xs))) (numbered i (f x ∷ [])))
    ∙ ap (map g) (sym (numbered_more f xs i x d lt is))

pub flat_told_more : {X A B : Type 0} (f : X → Option A) (g : ℕ × A → List B) (now after : List B) (xs : List X) (i : ℕ) (x d : X)
    → i < length xs → x ≡ get_or xs i d → now ≡ flat_map g (numbered 0 (map f (take i xs)))
    → after ≡ now ++ flat_map g (numbered i (f x ∷ [])) → after ≡ flat_map g (numbered 0 (map f (take (i + 1) xs)))
flat_told_more f g now after xs i x d lt is so_far new =
    new ∙ ap (λ t. t ++ flat_map g (numbered i (f x ∷ []))) so_far
    ∙ sym (flat_map-append g (numbered 0 (map f (take i xs))) (numbered i (f x ∷ []))) ∙ ap (flat_map g) (sym (numbered_more f xs i x d lt is))

-- ---- entries

place_lines-append : (p : ℕ) (es more : List Entry) → place_lines p (es ++ more) ≡ place_lines p es ++ place_lines (p + length es) more
place_lines-append p [] more = ap (λ k. place_lines k more) (sym (add-zero p))
place_lines-append p (e ∷ es) more =
    let place : p + 1 + length es ≡ p + suc (length es) = omega arith in
    let line : PlaceLine = record { place = p; epoch = e.epoch; name = e.name; len = e.len; fate = fate_of e.stands } in
    ap (λ t. line ∷ t) (place_lines-append (p + 1) es more ∙ ap (λ k. place_lines (p + 1) es ++ place_lines k more) place)

pub place_more : (p : ℕ) (now after : List PlaceLine) (es : List Entry) (i : ℕ) (e d : Entry) → i < length es → e ≡ get_or es i d
    → now ≡ place_lines p (take i es) → after ≡ now ++ place_lines (p + i) (e ∷ []) → after ≡ place_lines p (take (i + 1) es)
place_more p now after es i e d lt is so_far new =
    let count : p + length (take i es) ≡ p + i = omega (arith, length-take i es) in
    new ∙ ap (λ t. t ++ place_lines (p + i) (e ∷ [])) so_far ∙ ap (λ k. place_lines p (take i es) ++ place_lines k (e ∷ [])) (sym count)
    ∙ sym (place_lines-append p (take i es) (e ∷ [])) ∙ ap (place_lines p) (sym (front_is es i e d lt is))
