-- Lemmas about rows.
use Rattle.std.proofs.Common.{◌≡◌, ◌≢◌, ℕ, Bool, ◌+◌, ◌-◌, ◌<◌, List, [], ◌∷◌, length, get_or, set, take, eqb, ltb, cond, slice_get, Option, None, Some, IsNone, IsSomeAnd, sym, ap, subst, ◌∙◌, inl, inr, refl, arith, length-append}
use Rattle.std.specs.List.{AllPairs, swap_remove, position_or_len}
use Rattle.std.specs.Option.{option_map}
use Rattle.std.proofs.lemmas.List.{get_or-set_same, get_or-set_other, length-set, length-take-le, get_or-take, get_or_default}
use Rattle.std.proofs.lemmas.List.Quantifiers.{position-Some, all_pairs_push}
use Rattle.std.proofs.lemmas.List.Sums.{position_or_len_is, fails_before_first}
use Rattle.std.proofs.lemmas.Bool.{eq-eqb, ne_eqb, eqb-true, eqb-false, cases_eq, cases_lt, lt-ltb}
use Rattle.std.proofs.lemmas.Option.{slice_get-get_or, slice_get_past}
use Rattle.tap_queues.specs.declared.queues.Row.{Row}
use Rattle.tap_queues.specs.Rows.{no_row, AreRows, IsRowOf, index_of, attached, detached, moved_to}

-- the row at an index
abbrev pub row_at : List Row → ℕ → Row
row_at rows i = get_or rows i no_row

-- no two rows are of one file
abbrev pub AreDistinct : List Row → Type 0
AreDistinct rows = AllPairs (λ (a b : Row). a.file ≢ b.file) rows

-- a file's row is the only one, so it is the first
index_at : (rows : List Row) (file i : ℕ) → AreDistinct rows → i < length rows → (row_at rows i).file ≡ file → index_of rows file ≡ Some i
index_at rows file i distinct within is =
    let first = position_or_len_is (λ (row : Row). eqb row.file file) rows i no_row (omega arith) (λ k below. ne_eqb _ _ (λ same. distinct k i no_row below within (same ∙ sym is))) (λ _. eq-eqb _ _ is) in
    ap (λ n. cond (ltb n (length rows)) (Some n) None) first ∙ ap (λ b. cond b (Some i) None) (lt-ltb _ _ within)

-- where a file has an index, the row there is its own
pub index_is : (rows : List Row) (file i : ℕ) → index_of rows file ≡ Some i → (i < length rows) × ((row_at rows i).file ≡ file)
index_is rows file i e =
    let found = position-Some (λ (row : Row). eqb row.file file) rows i no_row e in
    (found.0, eqb-true _ _ found.1)

-- an index is a file's exactly where its row is the file's
pub index_exact : (rows : List Row) (file : ℕ) (answer : Option ℕ) → AreDistinct rows → answer ≡ index_of rows file → (i : ℕ) → (answer ≡ Some i → IsRowOf rows file i) × (IsRowOf rows file i → answer ≡ Some i)
index_exact rows file answer distinct is i = (
  λ e. let found = index_is rows file i (sym is ∙ e) in subst (λ o. IsSomeAnd o (λ (row : Row). row.file ≡ file)) (sym (slice_get-get_or rows i no_row found.0)) found.1,
  λ h. is ∙ elim (cases_lt i (length rows)) [
    | inl within ↦ index_at rows file i distinct within (subst (λ o. IsSomeAnd o (λ (row : Row). row.file ≡ file)) (slice_get-get_or rows i no_row within) h)
    | inr past ↦ absurd (subst (λ o. IsSomeAnd o (λ (row : Row). row.file ≡ file)) (slice_get_past rows i past) h)
  ],
)

-- where a file has no index, no row is its own
none_is : (rows : List Row) (file k : ℕ) (d : Row) → IsNone (index_of rows file) → k < length rows → (get_or rows k d).file ≢ file
none_is rows file k d none within is =
    elim (cases_lt (position_or_len (λ (row : Row). eqb row.file file) rows) (length rows)) [
      | inl below ↦
          let clash : IsNone {T = ℕ} (Some (position_or_len (λ (row : Row). eqb row.file file) rows)) = subst (λ (o : Option ℕ). IsNone o) (ap (λ b. cond b (Some (position_or_len (λ (row : Row). eqb row.file file) rows)) None) (lt-ltb _ _ below)) none in
          absurd (cc)
      | inr past ↦ eqb-false _ _ (fails_before_first (λ (row : Row). eqb row.file file) rows k d (omega arith)) is
    ]

-- rows stay rows with one of a new file
pub attached_rows : (rows : List Row) (file epoch : ℕ) → AreRows rows → IsNone (index_of rows file) → length rows < 256 → AreRows (attached rows file epoch)
attached_rows rows file epoch r none room = record {
  few = omega (arith, length-append rows (record { file = file; epoch = epoch } ∷ []));
  distinct = all_pairs_push (λ (a b : Row). a.file ≢ b.file) rows (record { file = file; epoch = epoch }) r.distinct (λ k d within. none_is rows file k d none within);
}

length-detached : (rows : List Row) (hole : ℕ) → length (detached rows hole) ≡ length rows - 1
length-detached rows hole = length-take-le (length rows - 1) (set rows hole (row_at rows (length rows - 1))) (omega (arith, length-set rows hole (row_at rows (length rows - 1))))

-- the last row stands at the hole
detached_here : (rows : List Row) (hole i : ℕ) (d : Row) → i + 1 < length rows → i ≡ hole → get_or (detached rows hole) i d ≡ row_at rows (length rows - 1)
detached_here rows hole i d within here =
    get_or-take (length rows - 1) (set rows hole (row_at rows (length rows - 1))) i d (omega arith)
    ∙ ap (λ n. get_or (set rows hole (row_at rows (length rows - 1))) n d) here
    ∙ get_or-set_same rows hole (row_at rows (length rows - 1)) d (omega arith)

-- and each other row where it stood
detached_other : (rows : List Row) (hole i : ℕ) (d : Row) → i + 1 < length rows → i ≢ hole → get_or (detached rows hole) i d ≡ row_at rows i
detached_other rows hole i d within away =
    get_or-take (length rows - 1) (set rows hole (row_at rows (length rows - 1))) i d (omega arith)
    ∙ get_or-set_other rows hole i (row_at rows (length rows - 1)) d away
    ∙ get_or_default rows i d no_row (omega arith)

-- rows stay rows without one
pub detached_rows : (rows : List Row) (hole : ℕ) → AreRows rows → AreRows (detached rows hole)
detached_rows rows hole r =
    let shorter = length-detached rows hole in
    let file : Row → ℕ = λ row. row.file in
    record {
      few = omega (arith, r.few);
      distinct = λ i j d below within same. elim (cases_eq i hole) [
        | inl here ↦ elim (cases_eq j hole) [
          | inl both ↦ absurd (omega arith)
          | inr away ↦ r.distinct j (length rows - 1) no_row (omega arith) (omega arith) (ap file (sym (detached_other rows hole j d (omega arith) away)) ∙ sym same ∙ ap file (detached_here rows hole i d (omega arith) here))
        ]
        | inr away ↦ elim (cases_eq j hole) [
          | inl here ↦ r.distinct i (length rows - 1) no_row (omega arith) (omega arith) (ap file (sym (detached_other rows hole i d (omega arith) away)) ∙ same ∙ ap file (detached_here rows hole j d (omega arith) here))
          | inr off ↦ r.distinct i j no_row below (omega arith) (ap file (sym (detached_other rows hole i d (omega arith) away)) ∙ same ∙ ap file (detached_other rows hole j d (omega arith) off))
        ]
      ];
    }

-- the file whose row stands at the hole then
pub moved_is : (rows : List Row) (hole : ℕ) → hole < length rows → option_map (λ (row : Row). row.file) (slice_get (detached rows hole) hole) ≡ moved_to rows hole
moved_is rows hole within =
    let shorter = length-detached rows hole in
    let file : Option Row → Option ℕ = option_map (λ (row : Row). row.file) in
    let by_test = λ (b : Bool). cond b None (option_map (λ (row : Row). row.file) (slice_get rows (length rows - 1))) in
    elim (cases_eq (hole + 1) (length rows)) [
      | inl last ↦ ap file (slice_get_past (detached rows hole) hole (omega arith)) ∙ sym (ap by_test (eq-eqb (hole + 1) (length rows) last))
      | inr inner ↦
          ap file (slice_get-get_or (detached rows hole) hole no_row (omega arith) ∙ ap (λ (row : Row). Some row) (detached_here rows hole hole no_row (omega arith) refl) ∙ sym (slice_get-get_or rows (length rows - 1) no_row (omega arith)))
          ∙ sym (ap by_test (ne_eqb (hole + 1) (length rows) inner))
    ]

-- what `swap_remove` leaves, whatever row it names past the end
pub swap_removed : (rows : List Row) (hole : ℕ) (d : Row) → hole < length rows → swap_remove rows hole d ≡ detached rows hole
swap_removed rows hole d within = ap (λ last. take (length rows - 1) (set rows hole last)) (get_or_default rows (length rows - 1) d no_row (omega arith))
