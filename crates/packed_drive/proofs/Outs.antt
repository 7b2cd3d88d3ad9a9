-- Ids of chains that are out, and how many descriptors they have together.
use Rattle.std.proofs.Common.{◌≡◌, ℕ, zero, suc, ◌+◌, ◌<◌, ◌≤◌, List, [], ◌∷◌, length, drop, set, get_or, replicate, Option, None, Some, refl, ap, ◌∙◌, arith, add-one, drop-cons}
use Rattle.std.specs.Prelude.{IfSome, All, slice_get}
use Rattle.std.specs.Option.{option_flatten}
use Rattle.std.proofs.lemmas.List.Elements.{All-nil, All-cons, All-head, All-tail}
use Rattle.packed_drive.specs.Books.{count_of, total, lowest}

-- an id that is out is not the lowest
pub lowest_more : (xs : List (Option ℕ)) (i : ℕ) (d : Option ℕ) (c : ℕ) → i < length xs → get_or xs i d ≡ Some c
    → (i + 1) + lowest (drop (i + 1) xs) ≡ i + lowest (drop i xs)
lowest_more xs i d c h is =
    let begins : drop i xs ≡ Some c ∷ drop (suc i) xs = drop-cons xs i d h ∙ ap (λ (o : Option ℕ). o ∷ drop (suc i) xs) is in
    let one : lowest (drop i xs) ≡ suc (lowest (drop (suc i) xs)) = ap lowest begins in
    let same : lowest (drop (i + 1) xs) ≡ lowest (drop (suc i) xs) = ap (λ n. lowest (drop n xs)) (add-one i) in
    omega (arith, one, same)

-- one that isn't is the lowest
pub lowest_here : (xs : List (Option ℕ)) (i : ℕ) (d : Option ℕ) → i < length xs → get_or xs i d ≡ None
    → lowest (drop i xs) ≡ 0
lowest_here xs i d h is = ap lowest (drop-cons xs i d h) ∙ ap (λ (o : Option ℕ). lowest (o ∷ drop (suc i) xs)) is

-- no chain is out
pub total_none : (n : ℕ) → total (replicate n None) ≡ 0
total_none zero = refl
total_none (suc n) = let e = total_none n in omega (arith, e)

pub counts_none : (P : Option ℕ → Type 0) (n : ℕ) → P None → All P (replicate n None)
counts_none P zero h = All-nil P
counts_none P (suc n) h = All-cons P None (replicate n None) h (counts_none P n h)

-- one place changes
pub total_set : (xs : List (Option ℕ)) (i : ℕ) (o d : Option ℕ) → i < length xs
    → total (set xs i o) + count_of (get_or xs i d) ≡ total xs + count_of o
total_set [] i o d h = absurd (omega arith)
total_set (x ∷ xs) zero o d h = omega arith
total_set (x ∷ xs) (suc i) o d h = let e = total_set xs i o d (omega arith) in omega (arith, e)

-- where a descriptor is free there is an id
pub some_id : (xs : List (Option ℕ)) → All (λ o. IfSome o (λ count. 1 ≤ count)) xs → total xs < length xs → lowest xs < length xs
some_id [] all h = absurd (omega arith)
some_id (None ∷ xs) all h = omega arith
some_id (Some c ∷ xs) all h =
    let one : 1 ≤ c = All-head (λ (o : Option ℕ). IfSome o (λ count. 1 ≤ count)) (Some c) xs all in
    let less : total xs < length xs = omega (arith, one, h) in
    let e = some_id xs (All-tail (λ (o : Option ℕ). IfSome o (λ count. 1 ≤ count)) (Some c) xs all) less in
    omega (arith, e)

pub at_lowest : (xs : List (Option ℕ)) (d : Option ℕ) → lowest xs < length xs → get_or xs (lowest xs) d ≡ None
at_lowest [] d h = absurd (omega arith)
at_lowest (None ∷ xs) d h = refl
at_lowest (Some c ∷ xs) d h = at_lowest xs d (omega (arith, h))

pub all_set : (P : Option ℕ → Type 0) (xs : List (Option ℕ)) (i : ℕ) (o : Option ℕ) → All P xs → P o → All P (set xs i o)
all_set P [] i o all h = All-nil P
all_set P (x ∷ xs) zero o all h = All-cons P o xs h (All-tail P x xs all)
all_set P (x ∷ xs) (suc i) o all h = All-cons P x (set xs i o) (All-head P x xs all) (all_set P xs i o (All-tail P x xs all) h)

-- an id that is out
pub found_at : (xs : List (Option ℕ)) (i : ℕ) (d : Option ℕ) (c : ℕ) → option_flatten (slice_get xs i) ≡ Some c
    → (i < length xs) × (get_or xs i d ≡ Some c)
found_at [] i d c h = absurd (cc)
found_at (x ∷ xs) zero d c h = (omega arith, by_item x h)
  where
    by_item : (o : Option ℕ) → option_flatten (Some o) ≡ Some c → o ≡ Some c
    by_item o e = e
found_at (x ∷ xs) (suc i) d c h = let e = found_at xs i d c h in let l = e.0 in (omega arith, e.1)

-- its count, and what is out without it
pub total_without : (xs : List (Option ℕ)) (i c : ℕ) → option_flatten (slice_get xs i) ≡ Some c → total (set xs i None) + c ≡ total xs
total_without xs i c h =
    let at = found_at xs i None c h in
    let count : count_of (get_or xs i None) ≡ c = ap count_of at.1 in
    let e = total_set xs i None None at.0 in
    omega (arith, count, e)
