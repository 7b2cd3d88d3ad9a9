-- The places of the entries that pass a test: the first, the last, how many, and what another standing of one entry
-- makes of them.
use Rattle.std.proofs.Common.{◌≡◌, ℕ, zero, suc, ◌+◌, ◌<◌, ◌≤◌, List, [], ◌∷◌, ◌++◌, length, Bool, true, false, Option, Some, None, refl, sym, ap, ◌∙◌, subst, arith}
use Rattle.std.proofs.lemmas.Option.{slice_get_within}
use Rattle.std.specs.Prelude.{if◌then◌else◌, option_map, slice_get, slice_index_or, slice_set}
use Rattle.tap_world.specs.declared.line.Entry.{Entry}
use Rattle.tap_world.specs.declared.line.Standing.{Standing}
use Rattle.tap_world.specs.Line.{count, first_that, last_that, or_here}
use Rattle.tap_world.specs.LineSteps.{restand}
use Rattle.tap_lines.specs.Indexed.{places_that}
use Rattle.tap_lines.proofs.Kit.{next_none, next_some, only_some, some_same}

abbrev pub one_if : Bool → ℕ
one_if b = if b then 1 else 0

-- ---- the first, the last, and how many

from_zero : (o : Option ℕ) → option_map (λ i. 0 + i) o ≡ o
from_zero None = refl
from_zero (Some i) = let z : 0 + i ≡ i = omega arith in ap Some z

from_next : (k : ℕ) (o : Option ℕ) → option_map (λ i. k + 1 + i) o ≡ option_map (λ i. k + i) (option_map (λ i. i + 1) o)
from_next k None = refl
from_next k (Some i) = let z : k + 1 + i ≡ k + (i + 1) = omega arith in ap Some z

pub places_first : (test : Standing → Bool) (k : ℕ) (line : List Entry) → slice_get (places_that test k line) 0 ≡ option_map (λ i. k + i) (first_that test line)
places_first test k [] = refl
places_first test k (e ∷ es) = go (test e.stands) (places_first test (k + 1) es)
  where
    go : (b : Bool) → slice_get (places_that test (k + 1) es) 0 ≡ option_map (λ i. k + 1 + i) (first_that test es)
        → slice_get (if b then k ∷ places_that test (k + 1) es else places_that test (k + 1) es) 0
        ≡ option_map (λ i. k + i) (if b then Some 0 else option_map (λ i. i + 1) (first_that test es))
    go true h = let z : k ≡ k + 0 = omega arith in ap Some z
    go false h = h ∙ from_next k (first_that test es)

pub first_now : (test : Standing → Bool) (line : List Entry) → slice_get (places_that test 0 line) 0 ≡ first_that test line
first_now test line = places_first test 0 line ∙ from_zero (first_that test line)

pub places_count : (test : Standing → Bool) (k : ℕ) (line : List Entry) → length (places_that test k line) ≡ count test line
places_count test k [] = refl
places_count test k (e ∷ es) = go (test e.stands) (places_count test (k + 1) es)
  where
    go : (b : Bool) → length (places_that test (k + 1) es) ≡ count test es
        → length (if b then k ∷ places_that test (k + 1) es else places_that test (k + 1) es) ≡ (if b then 1 else 0) + count test es
    go true h = omega (arith, h)
    go false h = omega (arith, h)

pub places_none : (test : Standing → Bool) (k : ℕ) (line : List Entry) → first_that test line ≡ None → places_that test k line ≡ []
places_none test k [] h = refl
places_none test k (e ∷ es) h = go (test e.stands) h (places_none test (k + 1) es)
  where
    go : (b : Bool) → (if b then Some 0 else option_map (λ i. i + 1) (first_that test es)) ≡ None
        → (first_that test es ≡ None → places_that test (k + 1) es ≡ [])
        → (if b then k ∷ places_that test (k + 1) es else places_that test (k + 1) es) ≡ []
    go true g rest = absurd (cc (g))
    go false g rest = rest (next_none _ g)

pub first_at : (test : Standing → Bool) (line : List Entry) (i : ℕ) → first_that test line ≡ Some i → (e : Entry) × (slice_get line i ≡ Some e) × (test e.stands ≡ true)
first_at test [] i h = absurd (cc (h))
first_at test (x ∷ xs) i h = go (test x.stands) refl h (first_at test xs)
  where
    go : (b : Bool) → test x.stands ≡ b → (if b then Some 0 else option_map (λ j. j + 1) (first_that test xs)) ≡ Some i
        → ((j : ℕ) → first_that test xs ≡ Some j → (e : Entry) × (slice_get xs j ≡ Some e) × (test e.stands ≡ true))
        → (e : Entry) × (slice_get (x ∷ xs) i ≡ Some e) × (test e.stands ≡ true)
    go true t g rest = (x, subst (λ (n : ℕ). slice_get (x ∷ xs) n ≡ Some x) (some_same 0 i g) refl, t)
    go false t g rest =
        let n = next_some (first_that test xs) i g in let r = rest n.0 n.1 in
        let up : suc n.0 ≡ i = omega (arith, n.2) in
        (r.0, subst (λ (m : ℕ). slice_get (x ∷ xs) m ≡ Some r.0) up r.1, r.2)

pub last_at : (test : Standing → Bool) (line : List Entry) (i : ℕ) → last_that test line ≡ Some i → (e : Entry) × (slice_get line i ≡ Some e) × (test e.stands ≡ true)
last_at test [] i h = absurd (cc (h))
last_at test (x ∷ xs) i h = go (last_that test xs) h (last_at test xs)
  where
    go : (o : Option ℕ) → or_here (test x.stands) o ≡ Some i → ((j : ℕ) → o ≡ Some j → (e : Entry) × (slice_get xs j ≡ Some e) × (test e.stands ≡ true))
        → (e : Entry) × (slice_get (x ∷ xs) i ≡ Some e) × (test e.stands ≡ true)
    go (Some j) g rest =
        let r = rest j refl in let same = some_same (j + 1) i g in let up : suc j ≡ i = omega (arith, same) in
        (r.0, subst (λ (m : ℕ). slice_get (x ∷ xs) m ≡ Some r.0) up r.1, r.2)
    go None g rest = let t = only_some (test x.stands) 0 i g in (x, subst (λ (n : ℕ). slice_get (x ∷ xs) n ≡ Some x) t.1 refl, t.0)

-- ---- another standing of one entry

one_last : (b : Bool) (k n : ℕ) (xs ys : List ℕ) → xs ≡ ys ++ n ∷ [] → (if b then k ∷ xs else xs) ≡ (if b then k ∷ ys else ys) ++ n ∷ []
one_last true k n xs ys h = ap (λ (zs : List ℕ). k ∷ zs) h
one_last false k n xs ys h = h

-- the first doesn't pass any more
pub places_out : (test : Standing → Bool) (k : ℕ) (line : List Entry) (i : ℕ) (s : Standing) → first_that test line ≡ Some i → test s ≡ false
    → places_that test k line ≡ (k + i) ∷ places_that test k (restand i s line)
places_out test k [] i s h off = absurd (cc (h))
places_out test k (e ∷ es) i s h off = go (test e.stands) refl h (places_out test (k + 1) es)
  where
    go : (b : Bool) → test e.stands ≡ b → (if b then Some 0 else option_map (λ j. j + 1) (first_that test es)) ≡ Some i
        → ((j : ℕ) (s : Standing) → first_that test es ≡ Some j → test s ≡ false → places_that test (k + 1) es ≡ (k + 1 + j) ∷ places_that test (k + 1) (restand j s es))
        → places_that test k (e ∷ es) ≡ (k + i) ∷ places_that test k (restand i s (e ∷ es))
    go true t g rest =
        let z : k ≡ k + 0 = omega arith in
        let at_zero : places_that test k (e ∷ es) ≡ (k + 0) ∷ places_that test k (restand 0 s (e ∷ es)) =
        rw (t, off) (ap (λ (n : ℕ). n ∷ places_that test (k + 1) es) z) in
        subst (λ (n : ℕ). places_that test k (e ∷ es) ≡ (k + n) ∷ places_that test k (restand n s (e ∷ es))) (some_same 0 i g) at_zero
    go false t g rest =
        let n = next_some (first_that test es) i g in
        let up : suc n.0 ≡ i = omega (arith, n.2) in
        let z : k + 1 + n.0 ≡ k + suc n.0 = omega arith in
        let at_next : places_that test k (e ∷ es) ≡ (k + suc n.0) ∷ places_that test k (restand (suc n.0) s (e ∷ es)) =
        rw t (rest n.0 s n.1 off ∙ ap (λ (m : ℕ). m ∷ places_that test (k + 1) (restand n.0 s es)) z) in
        subst (λ (m : ℕ). places_that test k (e ∷ es) ≡ (k + m) ∷ places_that test k (restand m s (e ∷ es))) up at_next

pub none_behind : (test : Standing → Bool) (n : ℕ) (line : List Entry) → last_that test line ≡ None → places_that test n line ≡ []
none_behind test n [] l = refl
none_behind test n (x ∷ xs) l = go (last_that test xs) (test x.stands) refl l (none_behind test (n + 1) xs)
  where
    go : (o : Option ℕ) (b : Bool) → last_that test xs ≡ o → or_here b o ≡ None → (last_that test xs ≡ None → places_that test (n + 1) xs ≡ [])
        → (if b then n ∷ places_that test (n + 1) xs else places_that test (n + 1) xs) ≡ []
    go (Some j) b is g more = absurd (cc (g))
    go None true is g more = absurd (cc (g))
    go None false is g more = more is

-- the last doesn't pass any more
pub places_back : (test : Standing → Bool) (k : ℕ) (line : List Entry) (i : ℕ) (s : Standing) → last_that test line ≡ Some i → test s ≡ false
    → places_that test k line ≡ places_that test k (restand i s line) ++ (k + i) ∷ []
places_back test k [] i s h off = absurd (cc (h))
places_back test k (e ∷ es) i s h off = go (last_that test es) refl h (places_back test (k + 1) es)
  where
    go : (o : Option ℕ) → last_that test es ≡ o → or_here (test e.stands) o ≡ Some i
        → ((j : ℕ) (s : Standing) → last_that test es ≡ Some j → test s ≡ false → places_that test (k + 1) es ≡ places_that test (k + 1) (restand j s es) ++ (k + 1 + j) ∷ [])
        → places_that test k (e ∷ es) ≡ places_that test k (restand i s (e ∷ es)) ++ (k + i) ∷ []
    go (Some j) l g rest =
        let same = some_same (j + 1) i g in let up : suc j ≡ i = omega (arith, same) in
        let z : k + 1 + j ≡ k + suc j = omega arith in
        let more : places_that test (k + 1) es ≡ places_that test (k + 1) (restand j s es) ++ (k + suc j) ∷ [] =
        rest j s l off ∙ ap (λ (n : ℕ). places_that test (k + 1) (restand j s es) ++ n ∷ []) z in
        subst (λ (n : ℕ). places_that test k (e ∷ es) ≡ places_that test k (restand n s (e ∷ es)) ++ (k + n) ∷ []) up
        (one_last (test e.stands) k (k + suc j) _ _ more)
    go None l g rest =
        let t = only_some (test e.stands) 0 i g in
        let z : k ≡ k + 0 = omega arith in
        let at_zero : places_that test k (e ∷ es) ≡ places_that test k (restand 0 s (e ∷ es)) ++ (k + 0) ∷ [] =
        rw (t.0, off, none_behind test (k + 1) es l) (ap (λ (n : ℕ). n ∷ []) z) in
        subst (λ (n : ℕ). places_that test k (e ∷ es) ≡ places_that test k (restand n s (e ∷ es)) ++ (k + n) ∷ []) t.1 at_zero

-- it passes as it did
pub places_same : (test : Standing → Bool) (k i : ℕ) (s : Standing) (line : List Entry) (e : Entry) → slice_get line i ≡ Some e → test e.stands ≡ test s
    → places_that test k (restand i s line) ≡ places_that test k line
places_same test k i s [] e at same = absurd (cc (at))
places_same test k zero s (x ∷ xs) e at same =
    let here : test s ≡ test x.stands = sym same ∙ ap (λ (y : Entry). test y.stands) (sym (some_same x e at)) in
    ap (λ (b : Bool). if b then k ∷ places_that test (k + 1) xs else places_that test (k + 1) xs) here
places_same test k (suc i) s (x ∷ xs) e at same =
    ap (λ (ys : List ℕ). if test x.stands then k ∷ ys else ys) (places_same test (k + 1) i s xs e at same)

pub first_same : (test : Standing → Bool) (i : ℕ) (s : Standing) (line : List Entry) (e : Entry) → slice_get line i ≡ Some e → test e.stands ≡ test s
    → first_that test (restand i s line) ≡ first_that test line
first_same test i s [] e at same = absurd (cc (at))
first_same test zero s (x ∷ xs) e at same =
    let here : test s ≡ test x.stands = sym same ∙ ap (λ (y : Entry). test y.stands) (sym (some_same x e at)) in
    ap (λ (b : Bool). if b then Some 0 else option_map (λ j. j + 1) (first_that test xs)) here
first_same test (suc i) s (x ∷ xs) e at same =
    ap (λ (o : Option ℕ). if test x.stands then Some 0 else option_map (λ j. j + 1) o) (first_same test i s xs e at same)

pub count_restand : (test : Standing → Bool) (i : ℕ) (s : Standing) (line : List Entry) (e : Entry) → slice_get line i ≡ Some e
    → count test (restand i s line) + one_if (test e.stands) ≡ count test line + one_if (test s)
count_restand test i s [] e h = absurd (cc (h))
count_restand test zero s (x ∷ xs) e h = rw (ap (λ (o : Entry). one_if (test o.stands)) (some_same x e h)) (omega arith)
count_restand test (suc i) s (x ∷ xs) e h = omega (arith, count_restand test i s xs e h)

-- ---- one entry more

pub count_more : (test : Standing → Bool) (line : List Entry) (e : Entry) → count test (line ++ e ∷ []) ≡ count test line + one_if (test e.stands)
count_more test [] e = omega arith
count_more test (x ∷ xs) e = omega (arith, count_more test xs e)

pub places_without : (test : Standing → Bool) (k : ℕ) (line : List Entry) (e : Entry) → test e.stands ≡ false → places_that test k (line ++ e ∷ []) ≡ places_that test k line
places_without test k [] e off = rw off refl
places_without test k (x ∷ xs) e off = ap (λ (ys : List ℕ). if test x.stands then k ∷ ys else ys) (places_without test (k + 1) xs e off)

pub places_with : (test : Standing → Bool) (k : ℕ) (line : List Entry) (e : Entry) → test e.stands ≡ true
    → places_that test k (line ++ e ∷ []) ≡ places_that test k line ++ (k + length line) ∷ []
places_with test k [] e on = let z : k ≡ k + 0 = omega arith in rw on (ap (λ (n : ℕ). n ∷ []) z)
places_with test k (x ∷ xs) e on =
    let z : k + 1 + length xs ≡ k + suc (length xs) = omega arith in
    one_last (test x.stands) k (k + suc (length xs)) _ _
    (places_with test (k + 1) xs e on ∙ ap (λ (n : ℕ). places_that test (k + 1) xs ++ n ∷ []) z)

pub first_more : (test : Standing → Bool) (line : List Entry) (e : Entry) → test e.stands ≡ false → first_that test (line ++ e ∷ []) ≡ first_that test line
first_more test [] e off = rw off refl
first_more test (x ∷ xs) e off = ap (λ (o : Option ℕ). if test x.stands then Some 0 else option_map (λ j. j + 1) o) (first_more test xs e off)

-- ---- a standing that is written

pub set_restand : (line : List Entry) (i : ℕ) (s : Standing) (x : Entry) → i < length line → x ≡ slice_index_or line i x
    → slice_set line i (record x { stands = s }) ≡ restand i s line
set_restand [] i s x lt is = absurd (omega (arith, lt))
set_restand (y ∷ ys) zero s x lt is = ap (λ (e : Entry). record e { stands = s } ∷ ys) is
set_restand (y ∷ ys) (suc i) s x lt is = ap (λ (l : List Entry). y ∷ l) (set_restand ys i s x (omega (arith, lt)) is)

pub count_most : (test : Standing → Bool) (line : List Entry) → count test line ≤ length line
count_most test [] = omega arith
count_most test (x ∷ xs) = go (test x.stands) (count_most test xs)
  where
    go : (b : Bool) → count test xs ≤ length xs → (if b then 1 else 0) + count test xs ≤ suc (length xs)
    go true h = omega (arith, h)
    go false h = omega (arith, h)

pub first_within : (test : Standing → Bool) (line : List Entry) (i : ℕ) → first_that test line ≡ Some i → i < length line
first_within test line i h = let f = first_at test line i h in slice_get_within line i f.0 f.1

pub last_within : (test : Standing → Bool) (line : List Entry) (i : ℕ) → last_that test line ≡ Some i → i < length line
last_within test line i h = let f = last_at test line i h in slice_get_within line i f.0 f.1
