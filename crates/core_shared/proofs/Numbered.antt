-- Things by number: what a list of them has at a place.
use Rattle.std.proofs.Common.{◌≡◌, ℕ, zero, suc, ◌<◌, ◌≤◌, List, [], ◌∷◌, length, true, false, Option, Some, None, refl, sym, ap, ◌∙◌, true≢false, arith}
use Rattle.std.proofs.lemmas.Bool.{ltb-false, ltb-true}
use Rattle.std.specs.Prelude.{nat_lt, is_some, IsSome, slice_index_or, slice_set}
use Rattle.tap_world.specs.ByNumber.{at, with_at}

pub at_within : {A : Type 0} (xs : List (Option A)) (n : ℕ) → IsSome (at xs n) → n < length xs
at_within [] n h = absurd (true≢false (sym h))
at_within (x ∷ xs) zero h = omega arith
at_within (x ∷ xs) (suc n) h = let r = at_within xs n h in omega (arith, r)

pub at_index : {A : Type 0} (xs : List (Option A)) (n : ℕ) (d : Option A) → n < length xs → slice_index_or xs n d ≡ at xs n
at_index [] n d h = absurd (omega (arith, h))
at_index (x ∷ xs) zero d h = refl
at_index (x ∷ xs) (suc n) d h = at_index xs n d (omega (arith, h))

pub with_set : {A : Type 0} (xs : List (Option A)) (n : ℕ) (y : A) → slice_set xs n (Some y) ≡ with_at n y xs
with_set [] n y = refl
with_set (x ∷ xs) zero y = refl
with_set (x ∷ xs) (suc n) y = ap (λ (l : List (Option _)). x ∷ l) (with_set xs n y)

-- ---- a slot that was read

pub slot_there : {A : Type 0} (xs : List (Option A)) (n m : ℕ) (slot : Option A) → n ≡ m → slot ≡ slice_index_or xs n slot → IsSome (at xs m) → IsSome slot
slot_there xs n m slot en is h =
    let w = at_within xs m h in
    ap (λ (o : Option _). is_some o) (is ∙ at_index xs n slot (omega (arith, w, en))) ∙ ap (λ (k : ℕ). is_some (at xs k)) en ∙ h

pub slot_is : {A : Type 0} (xs : List (Option A)) (n m : ℕ) (slot : Option A) (y : A) → n ≡ m → slot ≡ slice_index_or xs n slot → IsSome (at xs m) → slot ≡ Some y
    → at xs m ≡ Some y
slot_is xs n m slot y en is h some =
    let w = at_within xs m h in
    ap (λ (k : ℕ). at xs k) (sym en) ∙ sym (at_index xs n slot (omega (arith, w, en))) ∙ sym is ∙ some

-- ---- a slot that was looked for

at_past : {A : Type 0} (xs : List (Option A)) (n : ℕ) → length xs ≤ n → at xs n ≡ None
at_past [] n h = refl
at_past (x ∷ xs) zero h = absurd (omega (arith, h))
at_past (x ∷ xs) (suc n) h = at_past xs n (omega (arith, h))

pub got_slot : {A : Type 0} (xs l : List (Option A)) (n m : ℕ) (slot : Option A) → l ≡ xs → n ≡ m → true ≡ nat_lt n (length l)
    → slot ≡ slice_index_or l n slot → slot ≡ at xs m
got_slot xs l n m slot el en lt is =
    is ∙ at_index l n slot (ltb-true n (length l) (sym lt)) ∙ ap (λ (ys : List (Option _)). at ys n) el ∙ ap (λ (k : ℕ). at xs k) en

pub got_none : {A : Type 0} (xs l : List (Option A)) (n m : ℕ) → l ≡ xs → n ≡ m → false ≡ nat_lt n (length l) → None ≡ at xs m
got_none xs l n m el en lt =
    sym (at_past l n (ltb-false n (length l) (sym lt))) ∙ ap (λ (ys : List (Option _)). at ys n) el ∙ ap (λ (k : ℕ). at xs k) en
