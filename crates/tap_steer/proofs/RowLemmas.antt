-- How often a file stands in rows, as rows come and go.
use Rattle.std.proofs.Common.{◌≡◌, ℕ, ◌+◌, ◌-◌, ◌<◌, zero, suc, Bool, true, false, not, cond, eqb, ltb, List, [], ◌∷◌, ◌++◌, length, get_or, set, take, Option, Some, None, sym, ap, subst, ◌∙◌, inl, inr, refl, arith, length-set}
use Rattle.std.specs.Prelude.{IsNone, is_some}
use Rattle.std.specs.List.{All, position_or_len}
use Rattle.std.proofs.lemmas.Bool.{eq-eqb, ne_eqb, lt-ltb, le-ltb, cases_eq}
use Rattle.std.proofs.lemmas.List.{get_or-set_same, get_or-set_other, length-take}
use Rattle.std.proofs.lemmas.List.Elements.{All-take, All-set, All-get_or}
use Rattle.tap_queues.specs.declared.queues.Row.{Row}
use Rattle.tap_queues.specs.Rows.{attached, detached, index_of, no_row}
use Rattle.tap_steer.specs.Sound.{times}

-- 1 where a row is of a file
abbrev pub share : ℕ → Row → ℕ
share file row = cond (eqb row.file file) 1 0

pub share_same : (file : ℕ) (row : Row) → row.file ≡ file → share file row ≡ 1
share_same file row e = ap (λ b. cond b 1 0) (eq-eqb row.file file e)

pub times-append : (file : ℕ) (xs ys : List Row) → times file (xs ++ ys) ≡ times file xs + times file ys
times-append file [] ys = omega arith
times-append file (x ∷ xs) ys = omega (arith, times-append file xs ys)

pub times-attached : (rows : List Row) (file epoch other : ℕ) → times other (attached rows file epoch) ≡ times other rows + cond (eqb file other) 1 0
times-attached rows file epoch other = omega (arith, times-append other rows (record { file = file; epoch = epoch } ∷ []))

-- one row is written over
pub times-set : (file : ℕ) (xs : List Row) (i : ℕ) (y d : Row) → i < length xs → times file (set xs i y) + share file (get_or xs i d) ≡ times file xs + share file y
times-set file [] i y d h = absurd (omega arith)
times-set file (x ∷ xs) zero y d h = omega arith
times-set file (x ∷ xs) (suc i) y d h = let lower : i < length xs = omega arith in omega (arith, times-set file xs i y d lower)

-- the last is dropped
pub times-take : (file : ℕ) (xs : List Row) (n : ℕ) (d : Row) → length xs ≡ suc n → times file (take n xs) + share file (get_or xs n d) ≡ times file xs
times-take file [] n d h = absurd (omega arith)
times-take file (x ∷ []) zero d h = omega arith
times-take file (x ∷ y ∷ xs) zero d h = absurd (omega arith)
times-take file (x ∷ xs) (suc n) d h = let lower : length xs ≡ suc n = omega arith in omega (arith, times-take file xs n d lower)

-- the last row once one is written over by it
last_stays : (xs : List Row) (hole n : ℕ) (d : Row) → length xs ≡ suc n → hole < length xs → get_or (set xs hole (get_or xs n d)) n d ≡ get_or xs n d
last_stays xs hole n d h in' = elim (cases_eq n hole) [
  | inl same ↦
      let here : get_or (set xs hole (get_or xs n d)) hole d ≡ get_or xs n d = get_or-set_same xs hole (get_or xs n d) d in' in
      subst (λ k. get_or (set xs hole (get_or xs n d)) k d ≡ get_or xs n d) (sym same) here
  | inr apart ↦ get_or-set_other xs hole n (get_or xs n d) d apart
]

pub times-detached : (rows : List Row) (hole other : ℕ) → hole < length rows → times other (detached rows hole) + share other (get_or rows hole no_row) ≡ times other rows
times-detached rows hole other h =
    let n : ℕ = length rows - 1 in
    let last : Row = get_or rows n no_row in
    let full : length rows ≡ suc n = omega arith in
    let same_length : length (set rows hole last) ≡ suc n = length-set rows hole last ∙ full in
    let kept : get_or (set rows hole last) n no_row ≡ last = last_stays rows hole n no_row full h in
    let dropped : times other (take n (set rows hole last)) + share other (get_or (set rows hole last) n no_row) ≡ times other (set rows hole last) = times-take other (set rows hole last) n no_row same_length in
    let written : times other (set rows hole last) + share other (get_or rows hole no_row) ≡ times other rows + share other last = times-set other rows hole last no_row h in
    let the_last : share other (get_or (set rows hole last) n no_row) ≡ share other last = ap (share other) kept in
    omega arith

pub length-detached : (rows : List Row) (hole : ℕ) → length (detached rows hole) ≡ length rows - 1
length-detached rows hole =
    let n : ℕ = length rows - 1 in
    let last : Row = get_or rows n no_row in
    omega (arith, length-take n (set rows hole last), length-set rows hole last)

pub All-detached : (P : Row → Type 0) (rows : List Row) (hole : ℕ) → 0 < length rows → All P rows → All P (detached rows hole)
All-detached P rows hole some all =
    let n : ℕ = length rows - 1 in
    let below : n < length rows = omega arith in
    All-take P n (set rows hole (get_or rows n no_row)) (All-set P rows hole (get_or rows n no_row) (All-get_or P rows n no_row below all) all)

-- ---- the index of a file's row

abbrev place : List Row → ℕ → ℕ
place rows file = position_or_len (λ row. eqb row.file file) rows

-- a file that stands nowhere is found past the end
place_of_none : (rows : List Row) (file : ℕ) → times file rows ≡ 0 → place rows file ≡ length rows
place_of_none [] file h = refl
place_of_none (x ∷ xs) file h = elim (cases_eq x.file file) [
  | inl same ↦ absurd (omega (arith, share_same file x same))
  | inr apart ↦
      let b : eqb x.file file ≡ false = ne_eqb x.file file apart in
      let none : times file xs ≡ 0 = omega arith in
      ap (λ t. cond (not t) (1 + place xs file) 0) b ∙ (omega (arith, place_of_none xs file none))
]

-- one that stands somewhere is found there
record Found (rows : List Row) (file : ℕ) : Type 0 where
  within : place rows file < length rows
  its : (get_or rows (place rows file) no_row).file ≡ file

place_of_some : (rows : List Row) (file : ℕ) → 0 < times file rows → Found rows file
place_of_some [] file h = absurd (omega arith)
place_of_some (x ∷ xs) file h = elim (cases_eq x.file file) [
  | inl same ↦
      let b : eqb x.file file ≡ true = eq-eqb x.file file same in
      let at : place (x ∷ xs) file ≡ 0 = ap (λ t. cond (not t) (1 + place xs file) 0) b in
      record { within = omega arith; its = ap (λ k. (get_or (x ∷ xs) k no_row).file) at ∙ same }
  | inr apart ↦
      let b : eqb x.file file ≡ false = ne_eqb x.file file apart in
      let none : share file x ≡ 0 = ap (λ t. cond t 1 0) b in
      let deeper : Found xs file = place_of_some xs file (omega arith) in
      let at : place (x ∷ xs) file ≡ suc (place xs file) = ap (λ t. cond (not t) (1 + place xs file) 0) b ∙ (omega arith) in
      record {
        within = omega (arith, deeper.within);
        its = ap (λ k. (get_or (x ∷ xs) k no_row).file) at ∙ deeper.its;
      }
]

pub absent : (rows : List Row) (file : ℕ) → times file rows ≡ 0 → IsNone (index_of rows file)
absent rows file h =
    let past : ltb (place rows file) (length rows) ≡ false = le-ltb _ _ (omega (arith, place_of_none rows file h)) in
    let o : Bool → Option ℕ = λ b. cond b (Some (place rows file)) None in
    ap (λ b. is_some (o b)) past

-- where the file's row stands
pub record Stands (rows : List Row) (file hole : ℕ) : Type 0 where
  pub found : index_of rows file ≡ Some hole
  pub within : hole < length rows
  pub its : (get_or rows hole no_row).file ≡ file

pub stands : (rows : List Row) (file : ℕ) → 0 < times file rows → (hole : ℕ) × Stands rows file hole
stands rows file h =
    let at = place_of_some rows file h in
    let o : Bool → Option ℕ = λ b. cond b (Some (place rows file)) None in
    (place rows file, record { found = ap o (lt-ltb _ _ at.within); within = at.within; its = at.its })
