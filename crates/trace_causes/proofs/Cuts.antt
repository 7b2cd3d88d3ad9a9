-- A field is cut in two at the first byte of a kind.
use Rattle.std.proofs.Common.{◌≡◌, ℕ, ◌+◌, ◌-◌, ◌<◌, ◌≤◌, Bool, true, false, cond, eqb, ltb, List, [], ◌∷◌, ◌++◌, All, length, length-drop, take, drop, Some, None, refl, ap, sym, ◌∙◌, arith}
use Rattle.std.specs.List.{join_with_byte, onto_first, position, position_or_len, slice_split}
use Rattle.std.proofs.lemmas.Bool.{ltb-true, ltb-false}
use Rattle.std.proofs.lemmas.List.{take_all}
use Rattle.std.proofs.lemmas.List.Elements.{All-from_get_or}
use Rattle.std.proofs.lemmas.List.Splits.{join_with_byte-slice_split, slice_split_at, slice_split_first, slice_split_none}
use Rattle.std.proofs.lemmas.List.Sums.{fails_before_first}
use Rattle.trace_causes.specs.Reading.{cut, cut_parts}

abbrev pub IsFree : ℕ → List ℕ → Type 0
IsFree c xs = All (λ b. eqb b c ≡ false) xs

onto_cons : (b : ℕ) (parts : List (List ℕ)) → (first : List ℕ) × (others : List (List ℕ)) × (onto_first b parts ≡ first ∷ others)
onto_cons b [] = (b ∷ [], [], refl)
onto_cons b (part ∷ parts) = (b ∷ part, parts, refl)

-- there is always a part
some_part : (p : ℕ → Bool) (bs : List ℕ) → (first : List ℕ) × (others : List (List ℕ)) × (slice_split p bs ≡ first ∷ others)
some_part p [] = ([], [], refl)
some_part p (b ∷ bs) =
    elim (p b) as (λ (c : Bool). (first : List ℕ) × (others : List (List ℕ)) × (cond c ([] ∷ slice_split p bs) (onto_first b (slice_split p bs)) ≡ first ∷ others)) [
      | true ↦ ([], slice_split p bs, refl)
      | false ↦ onto_cons b (slice_split p bs)
    ]

cut_first : (c : ℕ) (x y field : List ℕ) → slice_split (λ b. eqb b c) field ≡ x ∷ slice_split (λ b. eqb b c) y → cut c field ≡ Some (x, y)
unfolding cut
cut_first c x y field e =
    let some = some_part (λ b. eqb b c) y in
    let whole : join_with_byte c (some.0 ∷ some.1) ≡ y = ap (join_with_byte c) (sym some.2) ∙ join_with_byte-slice_split c y in
    ap (cut_parts c) e ∙ ap (λ (parts : List (List ℕ)). cut_parts c (x ∷ parts)) some.2 ∙ ap (λ (rest : List ℕ). Some (x, rest)) whole

cut_nowhere : (c : ℕ) (field : List ℕ) → slice_split (λ b. eqb b c) field ≡ field ∷ [] → cut c field ≡ None
unfolding cut
cut_nowhere c field e = ap (cut_parts c) e

pub cut_again : (c : ℕ) (xs ys : List ℕ) → IsFree c xs → eqb c c ≡ true → cut c (xs ++ c ∷ ys) ≡ Some (xs, ys)
cut_again c xs ys free same = cut_first c xs ys (xs ++ c ∷ ys) (slice_split_at (λ b. eqb b c) xs c ys free same)

parts_take : (c : ℕ) (parts : List (List ℕ)) (x : List ℕ × List ℕ) → cut_parts c parts ≡ Some x → join_with_byte c parts ≡ x.0 ++ c ∷ x.1
parts_take c [] x e = absurd cc
parts_take c (part ∷ []) x e = absurd cc
parts_take c (part ∷ next ∷ parts) x e =
    let same : (part, join_with_byte c (next ∷ parts)) ≡ x = cc in
    ap (λ (p : List ℕ × List ℕ). p.0 ++ c ∷ p.1) same

pub cut_takes : (c : ℕ) (field : List ℕ) (x : List ℕ × List ℕ) → cut c field ≡ Some x → x.0 ++ c ∷ x.1 ≡ field
unfolding cut
cut_takes c field x e = sym (parts_take c (slice_split (λ b. eqb b c) field) x e) ∙ join_with_byte-slice_split c field

-- ---- at the first place of the byte

some_place : (b : Bool) (n i : ℕ) → cond b (Some n) None ≡ Some i → (b ≡ true) × (n ≡ i)
some_place true n i e = (refl, cc)
some_place false n i e = absurd cc

no_place : (b : Bool) (n : ℕ) → cond b (Some n) None ≡ None → b ≡ false
no_place true n e = absurd cc
no_place false n e = refl

split_at_place : (p : ℕ → Bool) (bs : List ℕ) (i : ℕ) → position p bs ≡ Some i → slice_split p bs ≡ take i bs ∷ slice_split p (take (length bs - (i + 1)) (drop (i + 1) bs))
split_at_place p bs i e =
    let parts = some_place (ltb (position_or_len p bs) (length bs)) (position_or_len p bs) i e in
    let inside : position_or_len p bs < length bs = ltb-true _ _ parts.0 in
    slice_split_first p bs 0 inside
    ∙ ap (λ (n : ℕ). take n bs ∷ slice_split p (drop (n + 1) bs)) parts.1
    ∙ ap (λ (rest : List ℕ). take i bs ∷ slice_split p rest) (sym (take_all (length bs - (i + 1)) (drop (i + 1) bs) (omega (arith, length-drop (i + 1) bs))))

not_split : (p : ℕ → Bool) (bs : List ℕ) → position p bs ≡ None → slice_split p bs ≡ bs ∷ []
not_split p bs e =
    let outside : length bs ≤ position_or_len p bs = ltb-false _ _ (no_place (ltb (position_or_len p bs) (length bs)) (position_or_len p bs) e) in
    slice_split_none p bs (All-from_get_or (λ b. p b ≡ false) bs 0 (λ i lt. fails_before_first p bs i 0 (omega arith)))

pub cut_at_place : (c : ℕ) (bs : List ℕ) (i : ℕ) → position (λ b. eqb b c) bs ≡ Some i → cut c bs ≡ Some (take i bs, take (length bs - (i + 1)) (drop (i + 1) bs))
cut_at_place c bs i e = cut_first c (take i bs) (take (length bs - (i + 1)) (drop (i + 1) bs)) bs (split_at_place (λ b. eqb b c) bs i e)

pub not_cut : (c : ℕ) (bs : List ℕ) → position (λ b. eqb b c) bs ≡ None → cut c bs ≡ None
not_cut c bs e = cut_nowhere c bs (not_split (λ b. eqb b c) bs e)
