-- The free descriptors as a rising list.
use Rattle.std.proofs.Common.{◌≡◌, ℕ, Bool, zero, suc, ◌+◌, ◌<◌, ◌≤◌, ◌↔◌, List, [], ◌∷◌, length, drop, get_or, Option, None, Some, IsSome, sym, ap, subst, ◌∙◌, arith, add-one, drop-cons, length-drop}
use Rattle.std.specs.Prelude.{IfSome, IfNone, All}
use Rattle.std.specs.Ordering.{nat_cmp, match_ordering}
use Rattle.std.specs.Cmp.{nat_cmp_is}
use Rattle.std.specs.BTreeSet.{insert_key}
use Rattle.std.specs.declared.cmp.Ordering.{Ordering}
use Rattle.std.specs.declared.cmp.Ordering.TheVariants.{Greater}
use Rattle.std.specs.Map.{values_of, lookup}
use Rattle.std.proofs.lemmas.List.Elements.{All-nil, All-cons}
use Rattle.std.proofs.lemmas.Map.Views.{IfSome-lookup_from_All}
use Rattle.std.proofs.Math.ListN.{drop_of_length-le}
use Rattle.vring_drive.specs.Books.{numbers_from, freed_into}

-- what is left behind the first of what is left
pub drop_behind : (i : ℕ) (xs : List ℕ) (k : ℕ) (new : List ℕ) → drop i xs ≡ k ∷ new → drop (i + 1) xs ≡ new
drop_behind zero xs k new e = ap (drop 1) e
drop_behind (suc i) [] k new e = cc
drop_behind (suc i) (x ∷ xs) k new e = rw (add-one (suc i)) (sym (ap (λ (n : ℕ). drop n xs) (add-one i)) ∙ drop_behind i xs k new e)

-- one more was taken away, if one was there
pub drop_popped : (r : Option ℕ) (i : ℕ) (xs old new : List ℕ) → old ≡ drop i xs
    → IfSome r (λ k. old ≡ k ∷ new) → IfNone r (new ≡ old) → (IsSome r ↔ (0 < length old)) → new ≡ drop (i + 1) xs
drop_popped None i xs old new e some none found =
    let empty : ¬ (0 < length old) = λ (h : 0 < length old). cc (found.1 h) in
    let len : length (drop i xs) ≡ 0 = omega (arith, ap length e) in
    let short : length xs ≤ i = omega (arith, length-drop i xs) in
    let past : length xs ≤ i + 1 = omega arith in
    none ∙ e ∙ drop_of_length-le xs short ∙ sym (drop_of_length-le xs past)
drop_popped (Some k) i xs old new e some none found = sym (drop_behind i xs k new (sym e ∙ some))

-- a number above all goes to the end
pub insert_last : (first n k : ℕ) → k ≡ first + n → insert_key nat_cmp (numbers_from first n) k ≡ numbers_from first (n + 1)
insert_last first zero k e = let at : k ≡ first = omega arith in ap (λ (x : ℕ). x ∷ []) at
insert_last first (suc n) k e =
    let count : suc n + 1 ≡ suc (n + 1) = omega arith in
    let above : Greater ≡ nat_cmp k first = nat_cmp_is k first Greater (omega arith) in
    let rest = insert_last (first + 1) n k (omega arith) in
    ap (λ (o : Ordering). match_ordering o (k ∷ numbers_from first (suc n)) (numbers_from first (suc n)) (first ∷ insert_key nat_cmp (numbers_from (first + 1) n) k)) (sym above)
    ∙ ap (λ (xs : List ℕ). first ∷ xs) rest ∙ sym (ap (numbers_from first) count)

-- one more was added
pub freed_more : (free chain : List ℕ) (i d : ℕ) → i < length chain
    → freed_into (insert_key nat_cmp free (get_or chain i d)) (drop (i + 1) chain) ≡ freed_into free (drop i chain)
freed_more free chain i d h = rw (drop-cons chain i d, add-one i)

-- numbers below one
pub numbers_below : (first n m : ℕ) → first + n ≤ m → All (λ i. i < m) (numbers_from first n)
numbers_below first zero m h = All-nil (λ i. i < m)
numbers_below first (suc n) m h =
    All-cons (λ i. i < m) first (numbers_from (first + 1) n) (omega arith) (numbers_below (first + 1) n m (omega arith))

-- what holds of each chain holds of one that is found
pub found_chain : (P : List ℕ → Type 0) (test : ℕ → Bool) (es : List (ℕ × List ℕ)) (chain : List ℕ)
    → All P (values_of es) → lookup test es ≡ Some chain → P chain
found_chain P test es chain h e = subst (λ (r : Option (List ℕ)). IfSome r P) e (IfSome-lookup_from_All P test es h)
