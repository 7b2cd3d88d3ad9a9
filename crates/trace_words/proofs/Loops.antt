-- A text that is written line by line.
use Rattle.std.proofs.Common.{◌≡◌, ℕ, ◌+◌, ◌<◌, List, [], ◌∷◌, ◌++◌, length, take, get_or, map, sym, ap, ◌∙◌, append_assoc}
use Rattle.std.proofs.lemmas.List.{take_more, map_push, append-nil}
use Rattle.std.proofs.lemmas.List.Concat.{flat_map-append}
use Rattle.scen_words.specs.Field.{line, text}

pub text-append : (xs ys : List (List (List ℕ))) → text (xs ++ ys) ≡ text xs ++ text ys
text-append xs ys = flat_map-append line xs ys

-- one more line
pub text_more : {X : Type 0} (f : X → List (List ℕ)) (before now after : List ℕ) (xs : List X) (i : ℕ) (x d : X) → i < length xs → x ≡ get_or xs i d
    → now ≡ before ++ text (map f (take i xs)) → after ≡ now ++ line (f x) → after ≡ before ++ text (map f (take (i + 1) xs))
text_more f before now after xs i x d lt is so_far new =
    let front : take (i + 1) xs ≡ take i xs ++ x ∷ [] = take_more xs i d lt ∙ ap (λ y. take i xs ++ y ∷ []) (sym is) in
    let lines : map f (take (i + 1) xs) ≡ map f (take i xs) ++ f x ∷ [] = ap (map f) front ∙ map_push f (take i xs) x in
    let whole : text (map f (take (i + 1) xs)) ≡ text (map f (take i xs)) ++ (line (f x) ++ []) = ap text lines ∙ text-append (map f (take i xs)) (f x ∷ []) in
    new ∙ ap (λ t. t ++ line (f x)) so_far ∙ append_assoc before (text (map f (take i xs))) (line (f x))
    ∙ ap (λ t. before ++ (text (map f (take i xs)) ++ t)) (sym (append-nil (line (f x)))) ∙ ap (λ t. before ++ t) (sym whole)
