-- What tests of lines say, and what the changes of a file need.
use Rattle.std.proofs.Common.{◌≡◌, ℕ, suc, ◌+◌, List, [], ◌∷◌, length, Bool, true, false, not, Option, Some, None, refl, sym, ap, ◌∙◌, subst, true≢false, option_map, arith}
use Rattle.std.specs.Prelude.{if◌then◌else◌, ◌&&◌, is_none, is_some, slice_get, nat_le, nat_lt}
use Rattle.tap_ledger.specs.declared.fate.Fate.{Fate}
use Rattle.tap_ground.specs.Options.{only_if}
use Rattle.tap_world.specs.declared.line.Entry.{Entry}
use Rattle.tap_world.specs.declared.line.Standing.{Standing}
use Rattle.tap_world.specs.declared.line.Standing.TheVariants.{Batched, Cut, Out}
use Rattle.tap_world.specs.Line.{File, count, entry_ready, first_that, has_batch, has_claim, in_batch, in_ring, is_over, last_that, or_here}
use Rattle.tap_world.specs.LineSteps.{cut_last, left_by, moved, moves_to, ready_front}
use Rattle.tap_sound.proofs.Kit.{some_same, then_some}

pub some_only : {A : Type 0} (b : Bool) (x : A) → is_some (only_if b x) ≡ b
some_only true x = refl
some_only false x = refl

pub some_if : {A : Type 0} (b : Bool) (x : A) → is_some (if b then Some x else None) ≡ b
some_if true x = refl
some_if false x = refl

pub all_three : (a b c : Bool) → a ≡ true → b ≡ true → c ≡ true → (a && b && c) ≡ true
all_three true true true e f g = refl
all_three true true false e f g = absurd (true≢false (sym g))
all_three true false c e f g = absurd (true≢false (sym f))
all_three false b c e f g = absurd (true≢false (sym e))

pub below : (a b : ℕ) → nat_le b a ≡ false → nat_lt a b ≡ true
below a b e = grind arith

-- ---- the first and the last

-- an entry stands at a place of the list
pub record Stands (test : Standing → Bool) (line : List Entry) (k : ℕ) : Type 0 where
  pub entry : Entry
  pub is_there : slice_get line k ≡ Some entry
  pub is_so : test entry.stands ≡ true

pub first_stands : (test : Standing → Bool) (line : List Entry) (k : ℕ) → first_that test line ≡ Some k
    → Stands test line k
first_stands test [] k e = absurd (cc (e))
first_stands test (x ∷ xs) k e = go (test x.stands) refl e (λ j. first_stands test xs j)
  where
    later : (o : Option ℕ) → first_that test xs ≡ o → option_map (λ (i : ℕ). i + 1) o ≡ Some k
        → ((j : ℕ) → first_that test xs ≡ Some j → Stands test xs j) → Stands test (x ∷ xs) k
    later None is e rest = absurd (cc (e))
    later (Some j) is e rest =
        let r = rest j is in
        subst (Stands test (x ∷ xs)) (some_same (j + 1) k e)
        (subst (Stands test (x ∷ xs)) (let p : suc j ≡ j + 1 = omega (arith) in p)
        (record { entry = r.entry; is_there = r.is_there; is_so = r.is_so }))

    go : (b : Bool) → test x.stands ≡ b → (if b then Some 0 else option_map (λ (i : ℕ). i + 1) (first_that test xs))
        ≡ Some k
        → ((j : ℕ) → first_that test xs ≡ Some j → Stands test xs j) → Stands test (x ∷ xs) k
    go true is e rest = subst (Stands test (x ∷ xs)) (some_same 0 k e)
        (record { entry = x; is_there = refl; is_so = is })
    go false is e rest = later (first_that test xs) refl e rest

pub last_there : (test : Standing → Bool) (line : List Entry) (k : ℕ) → last_that test line ≡ Some k
    → (e : Entry) × (slice_get line k ≡ Some e)
last_there test [] k e = absurd (cc (e))
last_there test (x ∷ xs) k e = go (last_that test xs) refl (test x.stands) e (λ j. last_there test xs j)
  where
    go : (o : Option ℕ) → last_that test xs ≡ o → (b : Bool) → or_here b o ≡ Some k
        → ((j : ℕ) → last_that test xs ≡ Some j → (y : Entry) × (slice_get xs j ≡ Some y))
        → (y : Entry) × (slice_get (x ∷ xs) k ≡ Some y)
    go (Some j) is b e rest =
        let r = rest j is in (
          r.0,
          subst (λ (m : ℕ). slice_get (x ∷ xs) m ≡ Some r.0) (let p : suc j ≡ j + 1 = omega (arith) in p
              ∙ some_same (j + 1) k e) r.1,
        )
    go None is true e rest = (x, subst (λ (m : ℕ). slice_get (x ∷ xs) m ≡ Some x) (some_same 0 k e) refl)
    go None is false e rest = absurd (cc (e))

-- where none stands so, none is counted
pub none_counted : (test : Standing → Bool) (line : List Entry) → is_some (first_that test line) ≡ false
    → count test line ≡ 0
none_counted test [] e = refl
none_counted test (x ∷ xs) e = go (test x.stands) e (none_counted test xs)
  where
    go : (b : Bool) → is_some (if b then Some 0 else option_map (λ (i : ℕ). i + 1) (first_that test xs)) ≡ false
        → (is_some (first_that test xs) ≡ false → count test xs ≡ 0) → (if b then 1 else 0) + count test xs ≡ 0
    go true e rest = absurd (true≢false e)
    go false e rest =
        let p : count test xs ≡ 0 = rest (later (first_that test xs) e) in
        let q : 0 + count test xs ≡ 0 = omega (arith, p) in q
      where
        later : (o : Option ℕ) → is_some (option_map (λ (i : ℕ). i + 1) o) ≡ false → is_some o ≡ false
        later None e = refl
        later (Some j) e = e

-- and all that aren't so are all
pub none_last : (test : Standing → Bool) (line : List Entry) → last_that test line ≡ None
    → count (λ (x : Standing). not (test x)) line ≡ length line
none_last test [] e = refl
none_last test (x ∷ xs) e = go (last_that test xs) refl (test x.stands) e (none_last test xs)
  where
    go : (o : Option ℕ) → last_that test xs ≡ o → (b : Bool) → or_here b o ≡ None
        → (last_that test xs ≡ None → count (λ (y : Standing). not (test y)) xs ≡ length xs) → (if not b then 1 else 0)
        + count (λ (y : Standing). not (test y)) xs ≡ suc (length xs)
    go (Some j) is b e rest = absurd (cc (e))
    go None is true e rest = absurd (cc (e))
    go None is false e rest =
        let p : count (λ (y : Standing). not (test y)) xs ≡ length xs = rest is in
        let q : 1 + count (λ (y : Standing). not (test y)) xs ≡ suc (length xs) = omega (arith, p) in q

pub ready_there : (line : List Entry) (k : ℕ) → ready_front line ≡ Some k → (e : Entry) × (slice_get line k ≡ Some e)
ready_there line k e =
    let a = then_some (first_that in_ring line) (λ i. entry_ready (slice_get line i) i) k e in
    go (slice_get line a.0) a.0 refl a.2
  where
    go : (o : Option Entry) (i : ℕ) → slice_get line i ≡ o → entry_ready o i ≡ Some k
        → (x : Entry) × (slice_get line k ≡ Some x)
    go None i is e = absurd (cc (e))
    go (Some x) i is e = (x, subst (λ (m : ℕ). slice_get line m ≡ Some x) (only_place _ i e) is)
      where
        only_place : (b : Bool) (i : ℕ) → only_if b i ≡ Some k → i ≡ k
        only_place true i e = some_same i k e
        only_place false i e = absurd (cc (e))

-- ---- changes

-- the batch has room where it is empty
pub moved_is : (f : File) → has_batch f ≡ false → is_some (moved f) ≡ is_some (ready_front f.line)
moved_is f e =
    ap (λ (k : ℕ). is_some (if nat_lt k 64 then moves_to Batched f (ready_front f.line) else None))
    (none_counted in_batch f.line e)
    ∙ go (ready_front f.line)
  where
    go : (o : Option ℕ) → is_some (moves_to Batched f o) ≡ is_some o
    go None = refl
    go (Some k) = refl

pub left_is : (f : File) (fate : Fate) (k : ℕ) → first_that in_batch f.line ≡ Some k → is_some (left_by None fate f)
    ≡ is_none f.hand
left_is f fate k e =
    ap (λ (o : Option ℕ). is_some (if is_none f.hand then moves_to (Out fate) (record f { hand = None }) o else None)) e
    ∙ some_if (is_none f.hand) _

-- where more wait than there are places, something is in the ring
too_many : (first c l k : ℕ) → nat_le (first + c + k + 1) (first + l) ≡ true → c ≡ l → true ≡ false
too_many first c l k e is = absurd (grind arith)

pub over_has_last : (f : File) → is_over f ≡ true → (k : ℕ) × (last_that in_ring f.line ≡ Some k)
over_has_last f e = go (last_that in_ring f.line) refl
  where
    go : (o : Option ℕ) → last_that in_ring f.line ≡ o → (k : ℕ) × (last_that in_ring f.line ≡ Some k)
    go (Some k) is = (k, is)
    go None is = absurd (true≢false (too_many f.first (count (λ (x : Standing). not (in_ring x)) f.line)
        (length f.line) f.capacity e (none_last in_ring f.line is)))

pub cut_is : (f : File) (k : ℕ) → is_over f ≡ true → last_that in_ring f.line ≡ Some k
    → is_some (cut_last f) ≡ not (has_claim f)
cut_is f k over e =
    ap (λ (o : Option ℕ). is_some (if is_over f && not (has_claim f) then moves_to Cut f o else None)) e
    ∙ some_if (is_over f && not (has_claim f)) _ ∙ ap (λ (b : Bool). b && not (has_claim f)) over
