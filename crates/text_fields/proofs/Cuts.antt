-- A list is cut at the first byte of a kind.
use Rattle.std.proofs.Common.{◌≡◌, ℕ, ◌+◌, ◌-◌, ◌^◌, ◌<◌, ◌≤◌, length-drop, Bool, true, false, cond, eqb, ltb, List, [], ◌∷◌, length, take, drop, Option, Some, None, refl, sym, ap, ◌∙◌, arith}
use Rattle.std.specs.List.{position, position_or_len, slice_split, onto_first}
use Rattle.std.proofs.lemmas.Bool.{ltb-true, ltb-false}
use Rattle.std.proofs.lemmas.List.{take_all}
use Rattle.std.proofs.lemmas.List.Elements.{All-from_get_or}
use Rattle.std.proofs.lemmas.List.Splits.{length-slice_split, slice_split_first, slice_split_none}
use Rattle.std.proofs.lemmas.List.Sums.{count_by-le-length, fails_before_first}
use denote.Ref.{Bor}
use Rattle.std.specs.Option.{IfSome}
use Rattle.text_fields.specs.Lines.{but_empty_last, fields_left, lines_of}

some_place : (b : Bool) (n i : ℕ) → cond b (Some n) None ≡ Some i → (b ≡ true) × (n ≡ i)
some_place true n i e = (refl, cc)
some_place false n i e = absurd cc

no_place : (b : Bool) (n : ℕ) → cond b (Some n) None ≡ None → b ≡ false
no_place true n e = absurd cc
no_place false n e = refl

-- cut at this place
pub cut_at : (p : ℕ → Bool) (bs : List ℕ) (i : ℕ) → position p bs ≡ Some i → slice_split p bs ≡ take i bs ∷ slice_split p (take (length bs - (i + 1)) (drop (i + 1) bs))
cut_at p bs i e =
    let parts = some_place (ltb (position_or_len p bs) (length bs)) (position_or_len p bs) i e in
    let inside : position_or_len p bs < length bs = ltb-true _ _ parts.0 in
    slice_split_first p bs 0 inside
    ∙ ap (λ (n : ℕ). take n bs ∷ slice_split p (drop (n + 1) bs)) parts.1
    ∙ ap (λ (rest : List ℕ). take i bs ∷ slice_split p rest) (sym (take_all (length bs - (i + 1)) (drop (i + 1) bs) (omega (arith, length-drop (i + 1) bs))))

-- not cut at all
pub not_cut : (p : ℕ → Bool) (bs : List ℕ) → position p bs ≡ None → slice_split p bs ≡ bs ∷ []
not_cut p bs e =
    let outside : length bs ≤ position_or_len p bs = ltb-false _ _ (no_place (ltb (position_or_len p bs) (length bs)) (position_or_len p bs) e) in
    slice_split_none p bs (All-from_get_or (λ b. p b ≡ false) bs 0 (λ i lt. fails_before_first p bs i 0 (omega arith)))

onto_cons : (b : ℕ) (parts : List (List ℕ)) → (first : List ℕ) × (others : List (List ℕ)) × (onto_first b parts ≡ first ∷ others)
onto_cons b [] = (b ∷ [], [], refl)
onto_cons b (part ∷ parts) = (b ∷ part, parts, refl)

-- there is always a part
pub some_part : (p : ℕ → Bool) (bs : List ℕ) → (first : List ℕ) × (others : List (List ℕ)) × (slice_split p bs ≡ first ∷ others)
some_part p [] = ([], [], refl)
some_part p (b ∷ bs) =
    elim (p b) as (λ (c : Bool). (first : List ℕ) × (others : List (List ℕ)) × (cond c ([] ∷ slice_split p bs) (onto_first b (slice_split p bs)) ≡ first ∷ others)) [
      | true ↦ ([], slice_split p bs, refl)
      | false ↦ onto_cons b (slice_split p bs)
    ]

but_last : (line next : List ℕ) (others : List (List ℕ)) → but_empty_last (line ∷ next ∷ others) ≡ line ∷ but_empty_last (next ∷ others)
but_last [] next others = refl
but_last (b ∷ line) next others = refl

-- the first line of a text that has an LF
pub line_cut : (bs line rest : List ℕ) → slice_split (λ b. eqb b 10) bs ≡ line ∷ slice_split (λ b. eqb b 10) rest → lines_of bs ≡ line ∷ lines_of rest
line_cut bs line rest e =
    let some = some_part (λ b. eqb b 10) rest in
    ap but_empty_last (e ∙ ap (λ (parts : List (List ℕ)). line ∷ parts) some.2) ∙ but_last line some.0 some.1 ∙ ap (λ (parts : List (List ℕ)). line ∷ but_empty_last parts) (sym some.2)

alone : (bs : List ℕ) → 0 < length bs → but_empty_last (bs ∷ []) ≡ bs ∷ []
alone [] h = absurd (omega arith)
alone (b ∷ bs) h = refl

-- a text without LF
pub line_left : (bs : List ℕ) → 0 < length bs → slice_split (λ b. eqb b 10) bs ≡ bs ∷ [] → lines_of bs ≡ bs ∷ []
line_left bs some e = ap but_empty_last e ∙ alone bs some

-- ---- how many fields there may be

pub few_fields : (o : Option (Bor (List ℕ))) → IfSome o (λ rest. length rest.now < 2 ^ 63) → length (fields_left o) < 2 ^ 64
few_fields None h = omega arith
few_fields (Some rest) h =
    let few = count_by-le-length (λ (b : ℕ). eqb b 32) rest.now in
    let count = length-slice_split (λ (b : ℕ). eqb b 32) rest.now in
    omega arith
