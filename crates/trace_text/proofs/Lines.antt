-- Bytes are cut behind their first LF, and lines with their LFs are the ended lines.
use Rattle.std.proofs.Common.{◌≡◌, ℕ, suc, ◌+◌, ◌-◌, ◌<◌, ◌≤◌, Bool, true, false, cond, not, ◌==◌, List, [], ◌∷◌, ◌++◌, length, take, drop, Some, None, refl, sym, ◌∙◌, ap, subst, append_assoc, arith}
use Rattle.std.specs.List.{list_all, onto_first, position, prefix_len, slice_split}
use Rattle.std.proofs.lemmas.Bool.{and_from, and_parts, eqb-true, ltb-true, ltb-false}
use Rattle.std.proofs.lemmas.List.{take_rest}
use Rattle.text_fields.specs.Lines.{text_of}
use Rattle.trace_text.specs.BadLine.{but_last, ended_lines}
use Rattle.trace_text.specs.Reading.{IsCut, IsInner}
use Rattle.trace_text.proofs.Next.{is_inner}

-- ---- the first LF

is_ten : (b : ℕ) → is_inner b ≡ false → b ≡ 10
is_ten b e = eqb-true b 10 (unnot (b == 10) e)
  where
    unnot : (c : Bool) → not c ≡ false → c ≡ true
    unnot true e = refl
    unnot false e = absurd cc

abbrev pub Found : ℕ → List ℕ → Type 0
Found n bs = IsInner (take n bs) × (bs ≡ take n bs ++ 10 ∷ drop (suc n) bs)

found_by : (b : ℕ) (bs : List ℕ) (t : Bool) → is_inner b ≡ t → (prefix_len is_inner bs < length bs → Found (prefix_len is_inner bs) bs)
    → cond t (1 + prefix_len is_inner bs) 0 < length (b ∷ bs) → Found (cond t (1 + prefix_len is_inner bs) 0) (b ∷ bs)
found_by b bs true e more lt =
    let rest = more (omega arith) in
    let next : suc (prefix_len is_inner bs) ≡ 1 + prefix_len is_inner bs = omega arith in
    let P : ℕ → Type 0 = λ k. Found k (b ∷ bs) in
    subst P next (and_from (is_inner b) (list_all is_inner (take (prefix_len is_inner bs) bs)) e rest.0, ap (λ t. b ∷ t) rest.1)
found_by b bs false e more lt = (refl, ap (λ c. c ∷ bs) (is_ten b e))

pub found : (bs : List ℕ) → prefix_len is_inner bs < length bs → Found (prefix_len is_inner bs) bs
found [] lt = absurd (omega arith)
found (b ∷ bs) lt = found_by b bs (is_inner b) refl (found bs) lt

inner_by : (b : ℕ) (bs : List ℕ) (t : Bool) → is_inner b ≡ t → (length bs ≤ prefix_len is_inner bs → IsInner bs) → length (b ∷ bs) ≤ cond t (1 + prefix_len is_inner bs) 0 → IsInner (b ∷ bs)
inner_by b bs true e more le = and_from (is_inner b) (list_all is_inner bs) e (more (omega arith))
inner_by b bs false e more le = absurd (omega arith)

pub all_inner : (bs : List ℕ) → length bs ≤ prefix_len is_inner bs → IsInner bs
all_inner [] le = refl
all_inner (b ∷ bs) le = inner_by b bs (is_inner b) refl (all_inner bs) le

some_place : (b : Bool) (n i : ℕ) → cond b (Some n) None ≡ Some i → (b ≡ true) × (n ≡ i)
some_place true n i e = (refl, cc)
some_place false n i e = absurd cc

no_place : (b : Bool) (n : ℕ) → cond b (Some n) None ≡ None → b ≡ false
no_place true n e = absurd cc
no_place false n e = refl

-- cut at the place of the first LF
pub cut_at : (bs : List ℕ) (i : ℕ) → position (λ b. b == 10) bs ≡ Some i → IsCut bs (take i bs) (take (length bs - (i + 1)) (drop (i + 1) bs))
cut_at bs i e =
    let n : ℕ = prefix_len is_inner bs in
    let parts = some_place _ n i e in
    let f = found bs (ltb-true n (length bs) parts.0) in
    let P : ℕ → Type 0 = λ k. IsInner (take k bs) × (bs ≡ take k bs ++ 10 ∷ drop (suc k) bs) in
    let at : P i = subst P parts.1 f in
    let next : suc i ≡ i + 1 = omega arith in
    (at.0, at.1 ∙ ap (λ k. take i bs ++ 10 ∷ drop k bs) next ∙ ap (λ t. take i bs ++ 10 ∷ t) (sym (take_rest bs (i + 1))))

pub not_cut : (bs : List ℕ) → position (λ b. b == 10) bs ≡ None → IsInner bs
not_cut bs e = all_inner bs (ltb-false (prefix_len is_inner bs) (length bs) (no_place _ (prefix_len is_inner bs) e))

-- ---- ended lines

not_ten : (b : ℕ) → is_inner b ≡ true → (b == 10) ≡ false
not_ten b e = unnot (b == 10) e
  where
    unnot : (c : Bool) → not c ≡ true → c ≡ false
    unnot true e = absurd cc
    unnot false e = refl

pub split_line : (l x : List ℕ) → IsInner l → slice_split (λ b. b == 10) (l ++ 10 ∷ x) ≡ l ∷ slice_split (λ b. b == 10) x
split_line [] x inner = refl
split_line (b ∷ l) x inner =
    let p = and_parts (is_inner b) (list_all is_inner l) inner in
    ap (λ c. cond c ([] ∷ slice_split (λ b. b == 10) (l ++ 10 ∷ x)) (onto_first b (slice_split (λ b. b == 10) (l ++ 10 ∷ x)))) (not_ten b p.0) ∙ ap (onto_first b) (split_line l x p.1)

pub split_inner : (l : List ℕ) → IsInner l → slice_split (λ b. b == 10) l ≡ l ∷ []
split_inner [] inner = refl
split_inner (b ∷ l) inner =
    let p = and_parts (is_inner b) (list_all is_inner l) inner in
    ap (λ c. cond c ([] ∷ slice_split (λ b. b == 10) l) (onto_first b (slice_split (λ b. b == 10) l))) (not_ten b p.0) ∙ ap (onto_first b) (split_inner l p.1)

onto_cons : (b : ℕ) (parts : List (List ℕ)) → (first : List ℕ) × (others : List (List ℕ)) × (onto_first b parts ≡ first ∷ others)
onto_cons b [] = (b ∷ [], [], refl)
onto_cons b (part ∷ parts) = (b ∷ part, parts, refl)

pub some_part : (p : ℕ → Bool) (bs : List ℕ) → (first : List ℕ) × (others : List (List ℕ)) × (slice_split p bs ≡ first ∷ others)
some_part p [] = ([], [], refl)
some_part p (b ∷ bs) =
    elim (p b) as (λ (c : Bool). (first : List ℕ) × (others : List (List ℕ)) × (cond c ([] ∷ slice_split p bs) (onto_first b (slice_split p bs)) ≡ first ∷ others)) [
      | true ↦ ([], slice_split p bs, refl)
      | false ↦ onto_cons b (slice_split p bs)
    ]

ended_cons : (l x : List ℕ) → IsInner l → ended_lines (l ++ 10 ∷ x) ≡ l ∷ ended_lines x
ended_cons l x inner =
    let part = some_part (λ b. b == 10) x in
    ap but_last (split_line l x inner) ∙ ap (λ ps. but_last (l ∷ ps)) part.2 ∙ ap (λ ps. l ∷ but_last ps) (sym part.2)

pub ended_inner : (l : List ℕ) → IsInner l → ended_lines l ≡ []
ended_inner l inner = ap but_last (split_inner l inner)

abbrev pub AllInner : List (List ℕ) → Type 0
AllInner [] = Unit {0}
AllInner (l ∷ ls) = IsInner l × AllInner ls

-- some lines, and what follows
pub ended_text : (ls : List (List ℕ)) (x : List ℕ) → AllInner ls → ended_lines (text_of ls ++ x) ≡ ls ++ ended_lines x
ended_text [] x all = refl
ended_text (l ∷ ls) x all =
    ap ended_lines (append_assoc (l ++ 10 ∷ []) (text_of ls) x ∙ append_assoc l (10 ∷ []) (text_of ls ++ x)) ∙ ended_cons l (text_of ls ++ x) all.0 ∙ ap (λ ks. l ∷ ks) (ended_text ls x all.1)

-- a line more
pub ended_more : (ls : List (List ℕ)) (l x : List ℕ) → AllInner ls → IsInner l → ended_lines (text_of ls ++ (l ++ 10 ∷ x)) ≡ ls ++ l ∷ ended_lines x
ended_more ls l x all inner = ended_text ls (l ++ 10 ∷ x) all ∙ ap (λ ks. ls ++ ks) (ended_cons l x inner)
