-- The pieces of some bytes, passed one after another until a line is there.
use Rattle.std.proofs.Common.{◌≡◌, ℕ, zero, suc, ◌+◌, ◌-◌, ◌<◌, ◌≤◌, Bool, true, false, cond, not, ◌==◌, List, [], ◌∷◌, ◌++◌, length, take, drop, Some, None, refl, sym, ◌∙◌, ap, subst, append_assoc, arith, length-append, ◌⊎◌, inl, inr}
use Rattle.std.specs.List.{list_all, position, prefix_len}
use Rattle.std.proofs.lemmas.Bool.{and_from, and_parts, cases_lt, not_from_false}
use Rattle.std.proofs.lemmas.Grind.{flat_map-append}
use Rattle.std.proofs.lemmas.List.{append-nil, length-take-le, take-append-drop}
use Rattle.text_fields.specs.Lines.{ended}
use Rattle.trace_text.specs.BadLine.{before_line, from_line, is_line, joined, pieces, with_ends}
use Rattle.trace_text.specs.Input.{IsPiece, IsSplit}
use Rattle.trace_text.specs.Reading.{IsInner}
use Rattle.trace_text.proofs.Exits.{is_nil, take_front, take_one}
use Rattle.trace_text.proofs.Lines.{all_inner, cut_at, found, not_cut, some_part, split_inner, split_line}
use Rattle.trace_text.proofs.Next.{is_inner}

-- ---- one piece

with_ends-cons : (l p : List ℕ) (ps : List (List ℕ)) → with_ends (l ∷ p ∷ ps) ≡ ended l ∷ with_ends (p ∷ ps)
with_ends-cons [] p ps = refl
with_ends-cons (b ∷ l) p ps = refl

pieces_line : (l x : List ℕ) → IsInner l → pieces (l ++ 10 ∷ x) ≡ ended l ∷ pieces x
pieces_line l x inner =
    let part = some_part (λ b. b == 10) x in
    ap with_ends (split_line l x inner) ∙ ap (λ ps. with_ends (l ∷ ps)) part.2 ∙ with_ends-cons l part.0 part.1 ∙ ap (λ ps. ended l ∷ with_ends ps) (sym part.2)

pieces_inner : (l : List ℕ) → IsInner l → 0 < length l → pieces l ≡ l ∷ []
pieces_inner [] inner lt = absurd (omega arith)
pieces_inner (b ∷ l) inner lt = ap with_ends (split_inner (b ∷ l) inner)

-- the pieces make up the bytes
joined_by : (n : ℕ) (bs : List ℕ) → length bs ≤ n → joined (pieces bs) ≡ bs
joined_by n [] le = refl
joined_by zero (b ∷ bs) le = absurd (omega arith)
joined_by (suc n) (b ∷ bs) le = by (cases_lt (prefix_len is_inner (b ∷ bs)) (length (b ∷ bs))) (λ x lt. joined_by n x lt)
  where
    by : (prefix_len is_inner (b ∷ bs) < length (b ∷ bs)) ⊎ (length (b ∷ bs) ≤ prefix_len is_inner (b ∷ bs)) → ((x : List ℕ) → length x ≤ n → joined (pieces x) ≡ x) → joined (pieces (b ∷ bs)) ≡ b ∷ bs
    by (inr none) more =
        let all : IsInner (b ∷ bs) = all_inner (b ∷ bs) none in
        ap joined (pieces_inner (b ∷ bs) all (omega arith)) ∙ append-nil (b ∷ bs)
    by (inl lt) more =
        let cut = found (b ∷ bs) lt in
        let line : List ℕ = take (prefix_len is_inner (b ∷ bs)) (b ∷ bs) in
        let rest : List ℕ = drop (suc (prefix_len is_inner (b ∷ bs))) (b ∷ bs) in
        let short : length rest ≤ n = omega (arith, ap length cut.1, length-append line (10 ∷ rest), le) in
        ap (λ x. joined (pieces x)) cut.1 ∙ ap joined (pieces_line line rest cut.0) ∙ ap (λ t. (line ++ 10 ∷ []) ++ t) (more rest short)
        ∙ append_assoc line (10 ∷ []) rest ∙ sym cut.1

pub joined_pieces : (bs : List ℕ) → joined (pieces bs) ≡ bs
joined_pieces bs = joined_by (length bs) bs (omega arith)

pub no_piece : (bs : List ℕ) → (length bs == 0) ≡ true → pieces bs ≡ []
no_piece bs e = ap pieces (is_nil bs e)

pub piece_at : (bs : List ℕ) (i : ℕ) → i < length bs → position (λ b. b == 10) bs ≡ Some i → IsPiece bs (take (i + 1) bs) (take (length bs - (i + 1)) (drop (i + 1) bs))
piece_at bs i lt e =
    let cut = cut_at bs i e in
    let line : List ℕ = take i bs in
    let rest : List ℕ = take (length bs - (i + 1)) (drop (i + 1) bs) in
    let count : i + 1 ≡ suc (length line) = omega (arith, length-take-le i bs (omega arith)) in
    let piece : take (i + 1) bs ≡ line ++ 10 ∷ [] = ap (λ n. take n bs) count ∙ ap (take (suc (length line))) cut.1 ∙ take_one line 10 rest in (
      ap pieces cut.1 ∙ pieces_line line rest cut.0 ∙ ap (λ p. p ∷ pieces rest) (sym piece),
      cut.1 ∙ sym (append_assoc line (10 ∷ []) rest) ∙ ap (λ p. p ++ rest) (sym piece),
      omega (arith, ap length piece, length-append line (10 ∷ [])),
    )

pub last_piece : (bs : List ℕ) → (length bs == 0) ≡ false → position (λ b. b == 10) bs ≡ None → IsPiece bs bs []
last_piece [] some e = absurd cc
last_piece (b ∷ bs) some e = (pieces_inner (b ∷ bs) (not_cut (b ∷ bs) e) (omega arith), sym (append-nil (b ∷ bs)), omega arith)

-- ---- pieces that were passed

pub record Passed (line bytes rest : List ℕ) : Type 0 where
  pub done : List (List ℕ)
  pub pieces_are : pieces bytes ≡ done ++ pieces rest
  pub others : list_all (λ p. not (is_line line p)) done ≡ true
  pub bytes_are : bytes ≡ joined done ++ rest

pub passed_none : (line bytes : List ℕ) → Passed line bytes bytes
passed_none line bytes = record { done = []; pieces_are = refl; others = refl; bytes_are = refl }

others_more : (test : List ℕ → Bool) (done : List (List ℕ)) (p : List ℕ) → list_all test done ≡ true → test p ≡ true → list_all test (done ++ p ∷ []) ≡ true
others_more test [] p all e = and_from (test p) true e refl
others_more test (q ∷ done) p all e =
    let parts = and_parts (test q) (list_all test done) all in and_from (test q) (list_all test (done ++ p ∷ [])) parts.0 (others_more test done p parts.1 e)

pub passed_more : (line bytes rest piece behind : List ℕ) → Passed line bytes rest → IsPiece rest piece behind → is_line line piece ≡ false → Passed line bytes behind
passed_more line bytes rest piece behind p is other = record {
  done = p.done ++ piece ∷ [];
  pieces_are = p.pieces_are ∙ ap (λ ps. p.done ++ ps) is.0 ∙ sym (append_assoc p.done (piece ∷ []) (pieces behind));
  others = others_more (λ q. not (is_line line q)) p.done piece p.others (not_from_false (is_line line piece) other);
  bytes_are =
      p.bytes_are ∙ ap (λ r. joined p.done ++ r) (is.1 ∙ ap (λ t. t ++ behind) (sym (append-nil piece)))
      ∙ sym (append_assoc (joined p.done) (piece ++ []) behind)
      ∙ ap (λ t. t ++ behind) (sym (flat_map-append (λ q. q) p.done (piece ∷ [])));
}

-- where the passing stops: at the line, or behind all pieces
abbrev pub Stops : List ℕ → List (List ℕ) → Type 0
Stops line [] = Unit {0}
Stops line (p ∷ ps) = is_line line p ≡ true

prefix_front : (line : List ℕ) (done ps : List (List ℕ)) → list_all (λ p. not (is_line line p)) done ≡ true → Stops line ps → prefix_len (λ p. not (is_line line p)) (done ++ ps) ≡ length done
prefix_front line [] [] all stops = refl
prefix_front line [] (p ∷ ps) all stops = ap (λ b. cond (not b) (1 + prefix_len (λ q. not (is_line line q)) ps) 0) stops
prefix_front line (q ∷ done) ps all stops =
    let parts = and_parts (not (is_line line q)) (list_all (λ p. not (is_line line p)) done) all in
    let rest = prefix_front line done ps parts.1 stops in
    let more : 1 + prefix_len (λ p. not (is_line line p)) (done ++ ps) ≡ length (q ∷ done) = omega (arith, rest) in
    ap (λ b. cond b (1 + prefix_len (λ p. not (is_line line p)) (done ++ ps)) 0) parts.0 ∙ more

passed_front : (line : List ℕ) (done ps : List (List ℕ)) → list_all (λ p. not (is_line line p)) done ≡ true → Stops line ps → before_line line (done ++ ps) ≡ done
passed_front line done ps all stops = ap (λ n. take n (done ++ ps)) (prefix_front line done ps all stops) ∙ take_front done ps

drop_front : {A : Type 0} (xs ys : List A) → drop (length xs) (xs ++ ys) ≡ ys
drop_front [] ys = refl
drop_front (x ∷ xs) ys = drop_front xs ys

pub split_at : (line bytes rest : List ℕ) → Passed line bytes rest → Stops line (pieces rest) → IsSplit line bytes (take (length bytes - length rest) bytes) rest
split_at line bytes rest p stops =
    let front : before_line line (pieces bytes) ≡ p.done = ap (before_line line) p.pieces_are ∙ passed_front line p.done (pieces rest) p.others stops in
    let count : length bytes - length rest ≡ length (joined p.done) = omega (arith, ap length p.bytes_are, length-append (joined p.done) rest) in (
      ap (λ n. take n bytes) count ∙ ap (take (length (joined p.done))) p.bytes_are ∙ take_front (joined p.done) rest ∙ ap joined (sym front),
      sym (ap (λ n. drop n (pieces bytes)) (ap length front) ∙ ap (drop (length p.done)) p.pieces_are ∙ drop_front p.done (pieces rest)),
    )

pub stops_at : (line rest piece behind : List ℕ) → IsPiece rest piece behind → is_line line piece ≡ true → Stops line (pieces rest)
stops_at line rest piece behind is e = let P : List (List ℕ) → Type 0 = λ ps. Stops line ps in subst P (sym is.0) e

pub stops_none : (line rest : List ℕ) → pieces rest ≡ [] → Stops line (pieces rest)
stops_none line rest none = let P : List (List ℕ) → Type 0 = λ ps. Stops line ps in subst P (sym none) tt

pub rest_short : (line bytes rest : List ℕ) → Passed line bytes rest → length rest ≤ length bytes
rest_short line bytes rest p = omega (arith, ap length p.bytes_are, length-append (joined p.done) rest)

-- ---- the three parts

drop_next : {A : Type 0} (n : ℕ) (xs : List A) → drop 1 (drop n xs) ≡ drop (suc n) xs
drop_next zero [] = refl
drop_next zero (x ∷ xs) = refl
drop_next (suc n) [] = refl
drop_next (suc n) (x ∷ xs) = drop_next n xs

-- what stands behind `end`, and the trace before it
pub parts_at : (line rest from behind : List ℕ) → pieces from ≡ from_line line (pieces rest) → pieces behind ≡ drop 1 (pieces from)
    → let n : ℕ = suc (length (before_line line (pieces rest))) in
    (behind ≡ joined (drop n (pieces rest))) × (rest ≡ joined (take n (pieces rest)) ++ behind)
parts_at line rest from behind is next =
    let n : ℕ = length (before_line line (pieces rest)) in
    let left : behind ≡ joined (drop (suc n) (pieces rest)) = sym (joined_pieces behind) ∙ ap joined (next ∙ ap (drop 1) is ∙ drop_next n (pieces rest)) in (
      left,
      sym (joined_pieces rest) ∙ ap joined (sym (take-append-drop (suc n) (pieces rest))) ∙ flat_map-append (λ p. p) (take (suc n) (pieces rest)) (drop (suc n) (pieces rest))
          ∙ ap (λ t. joined (take (suc n) (pieces rest)) ++ t) (sym left),
    )

pub trace_at : (rest trace behind : List ℕ) → rest ≡ trace ++ behind → take (length rest - length behind) rest ≡ trace
trace_at rest trace behind is =
    let count : length rest - length behind ≡ length trace = omega (arith, ap length is, length-append trace behind) in
    ap (λ n. take n rest) count ∙ ap (take (length trace)) is ∙ take_front trace behind

-- a piece behind which less is left
pub behind_less : (rest piece behind : List ℕ) → IsPiece rest piece behind → length behind < length rest
behind_less rest piece behind is = omega (arith, ap length is.1, length-append piece behind, is.2)
