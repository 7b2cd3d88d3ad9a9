-- What is read off the places of the entries that wait.
use Rattle.std.proofs.Common.{◌≡◌, ℕ, zero, suc, ◌+◌, ◌<◌, List, [], ◌∷◌, ◌++◌, length, Bool, true, false, Option, Some, None, refl, sym, ap, ◌∙◌, append_assoc, length-append, arith}
use Rattle.std.proofs.lemmas.List.{nil_from_length}
use Rattle.std.proofs.lemmas.Bool.Decides.{nat_tests}
use Rattle.std.specs.Prelude.{if◌then◌else◌, ◌==◌, not, is_none, option_map, slice_get}
use Rattle.tap_world.specs.declared.line.Entry.{Entry}
use Rattle.tap_world.specs.declared.line.Standing.{Standing}
use Rattle.tap_world.specs.declared.line.Standing.TheVariants.{Batched, Claimed, Cut, Out, Ready}
use Rattle.tap_world.specs.Line.{count, first_that, in_batch, in_ring, is_kept, last_that}
use Rattle.tap_lines.specs.Indexed.{IsIndexed, places_that}
use Rattle.tap_lines.proofs.Kit.{next_none}
use Rattle.tap_lines.proofs.Index.{waiting_long}
use Rattle.tap_lines.proofs.Places.{first_now, none_behind, places_back, places_count, places_none}

get_front : (xs ys : List ℕ) → 0 < length xs → slice_get (xs ++ ys) 0 ≡ slice_get xs 0
get_front [] ys h = absurd (omega (arith, h))
get_front (x ∷ xs) ys h = refl

get_behind : (xs ys : List ℕ) (n : ℕ) → n ≡ length xs → slice_get (xs ++ ys) n ≡ slice_get ys 0
get_behind [] ys n h = ap (λ (i : ℕ). slice_get ys i) h
get_behind (x ∷ xs) ys zero h = absurd (omega (arith, h))
get_behind (x ∷ xs) ys (suc n) h = get_behind xs ys n (omega (arith, h))

pub count_zero : (test : Standing → Bool) (line : List Entry) → count test line ≡ 0 → first_that test line ≡ None
count_zero test line h =
    let l = places_count test 0 line in
    let nil = nil_from_length (places_that test 0 line) (omega (arith, l, h)) in
    sym (first_now test line) ∙ ap (λ (xs : List ℕ). slice_get xs 0) nil

pub none_count : (test : Standing → Bool) (line : List Entry) → first_that test line ≡ None → count test line ≡ 0
none_count test line h = sym (places_count test 0 line) ∙ ap (λ (xs : List ℕ). length xs) (places_none test 0 line h)

pub some_count : (test : Standing → Bool) (line : List Entry) (i : ℕ) → first_that test line ≡ Some i → 0 < count test line
some_count test line i h = go (count test line) refl
  where
    go : (n : ℕ) → count test line ≡ n → 0 < n
    go zero e = absurd (let z = count_zero test line e in cc (z, h))
    go (suc n) e = omega arith

pub batch_front_is : (line : List Entry) (waiting : List ℕ) (batched claims : ℕ) → IsIndexed line waiting batched claims
    → (batched ≡ 0 → ⊥) → slice_get waiting 0 ≡ first_that in_batch line
batch_front_is line waiting batched claims h some =
    let l = places_count in_batch 0 line in
    let b = h.batch in
    let long : 0 < length (places_that in_batch 0 line) = positive batched some (l ∙ sym b) in
    ap (λ (xs : List ℕ). slice_get xs 0) h.waits ∙ get_front (places_that in_batch 0 line) (places_that in_ring 0 line) long ∙ first_now in_batch line
  where
    positive : (n : ℕ) {m : ℕ} → (n ≡ 0 → ⊥) → m ≡ n → 0 < m
    positive zero some e = absurd (some refl)
    positive (suc n) some e = omega (arith, e)

pub ring_front_is : (line : List Entry) (waiting : List ℕ) (batched claims : ℕ) → IsIndexed line waiting batched claims
    → slice_get waiting batched ≡ first_that in_ring line
ring_front_is line waiting batched claims h =
    ap (λ (xs : List ℕ). slice_get xs batched) h.waits
    ∙ get_behind (places_that in_batch 0 line) (places_that in_ring 0 line) batched (h.batch ∙ sym (places_count in_batch 0 line))
    ∙ first_now in_ring line

pub no_ring_back : (line : List Entry) → count in_ring line ≡ 0 → last_that in_ring line ≡ None
no_ring_back line none = go (last_that in_ring line) refl
  where
    go : (o : Option ℕ) → last_that in_ring line ≡ o → o ≡ None
    go None e = refl
    go (Some i) e =
        let back = ap (λ (xs : List ℕ). length xs) (places_back in_ring 0 line i Cut e refl) in
        let l = places_count in_ring 0 line in
        let more = length-append (places_that in_ring 0 (Rattle.tap_world.specs.LineSteps.restand i Cut line)) ((0 + i) ∷ []) in
        absurd (omega (arith, back, l, none, more))

pub ring_back_is : (line : List Entry) (waiting : List ℕ) (batched claims n : ℕ) → IsIndexed line waiting batched claims
    → (length waiting ≡ batched → ⊥) → n + 1 ≡ length waiting → slice_get waiting n ≡ last_that in_ring line
ring_back_is line waiting batched claims n h some long = go (last_that in_ring line) refl
  where
    go : (o : Option ℕ) → last_that in_ring line ≡ o → slice_get waiting n ≡ o
    go None e =
        let none = ap (λ (xs : List ℕ). length xs) (none_behind in_ring 0 line e) in
        let l = places_count in_ring 0 line in
        absurd (some (omega (arith, waiting_long line waiting batched claims h, h.batch, none, l)))
    go (Some i) e =
        let out = places_back in_ring 0 line i Cut e refl in
        let rest : List ℕ = places_that in_ring 0 (Rattle.tap_world.specs.LineSteps.restand i Cut line) in
        let front : List ℕ = places_that in_batch 0 line ++ rest in
        let all : waiting ≡ front ++ (0 + i) ∷ [] =
        h.waits ∙ ap (λ (ys : List ℕ). places_that in_batch 0 line ++ ys) out ∙ sym (append_assoc (places_that in_batch 0 line) rest ((0 + i) ∷ [])) in
        let size : length waiting ≡ length front + 1 = ap (λ (xs : List ℕ). length xs) all ∙ length-append front ((0 + i) ∷ []) in
        let z : 0 + i ≡ i = omega arith in
        ap (λ (xs : List ℕ). slice_get xs n) all ∙ get_behind front ((0 + i) ∷ []) n (omega (arith, size, long)) ∙ ap Some z

-- ---- what waits

kept_ring : (s : Standing) → is_kept s ≡ false → (in_batch s ≡ false) × (in_ring s ≡ false)
kept_ring (Claimed actor) e = absurd (cc (e))
kept_ring Ready e = absurd (cc (e))
kept_ring Batched e = absurd (cc (e))
kept_ring (Out fate) e = (refl, refl)
kept_ring Cut e = (refl, refl)

pub empty_from : (line : List Entry) → count in_batch line ≡ 0 → count in_ring line ≡ 0 → is_none (first_that is_kept line) ≡ true
empty_from [] b r = refl
empty_from (x ∷ xs) b r = go x.stands (empty_from xs) b r
  where
    past : (o : Option ℕ) → is_none o ≡ true → is_none (option_map (λ i. i + 1) o) ≡ true
    past None h = refl
    past (Some i) h = h

    go : (s : Standing) → (count in_batch xs ≡ 0 → count in_ring xs ≡ 0 → is_none (first_that is_kept xs) ≡ true)
        → (if in_batch s then 1 else 0) + count in_batch xs ≡ 0 → (if in_ring s then 1 else 0) + count in_ring xs ≡ 0
        → is_none (if is_kept s then Some 0 else option_map (λ i. i + 1) (first_that is_kept xs)) ≡ true
    go (Claimed actor) rest b r = absurd (omega (arith, r))
    go Ready rest b r = absurd (omega (arith, r))
    go Batched rest b r = absurd (omega (arith, b))
    go (Out fate) rest b r = past (first_that is_kept xs) (rest (omega (arith, b)) (omega (arith, r)))
    go Cut rest b r = past (first_that is_kept xs) (rest (omega (arith, b)) (omega (arith, r)))

pub empty_counts : (line : List Entry) → first_that is_kept line ≡ None → (count in_batch line ≡ 0) × (count in_ring line ≡ 0)
empty_counts [] h = (refl, refl)
empty_counts (x ∷ xs) h = go x.stands h (empty_counts xs)
  where
    go : (s : Standing) → (if is_kept s then Some 0 else option_map (λ i. i + 1) (first_that is_kept xs)) ≡ None
        → (first_that is_kept xs ≡ None → (count in_batch xs ≡ 0) × (count in_ring xs ≡ 0))
        → ((if in_batch s then 1 else 0) + count in_batch xs ≡ 0) × ((if in_ring s then 1 else 0) + count in_ring xs ≡ 0)
    go (Claimed actor) h rest = absurd (cc (h))
    go Ready h rest = absurd (cc (h))
    go Batched h rest = absurd (cc (h))
    go (Out fate) h rest = let r = rest (next_none _ h) in let b = r.0 in let i = r.1 in (omega (arith, b), omega (arith, i))
    go Cut h rest = let r = rest (next_none _ h) in let b = r.0 in let i = r.1 in (omega (arith, b), omega (arith, i))

-- nothing waits, by how much waits
pub empty_is : (line : List Entry) (n : ℕ) → n ≡ count in_batch line + count in_ring line → (n == 0) ≡ is_none (first_that is_kept line)
empty_is line n is = go (first_that is_kept line) refl
  where
    is_none_at : (i : ℕ) → first_that is_kept line ≡ Some i → is_none (first_that is_kept line) ≡ true → is_none (Some i) ≡ true
    is_none_at i e h = ap (λ (o : Option ℕ). is_none o) (sym e) ∙ h

    some_none : (i : ℕ) → is_none (Some i) ≡ true → ⊥
    some_none i h = cc (h)

    not_zero : (m : ℕ) → (m ≡ 0 → ⊥) → (m == 0) ≡ false
    not_zero m h = grind (arith, nat_tests)

    go : (o : Option ℕ) → first_that is_kept line ≡ o → (n == 0) ≡ is_none o
    go None e = let c = empty_counts line e in let b = c.0 in let r = c.1 in let z : n ≡ 0 = omega (arith, b, r, is) in rw z refl
    go (Some i) e = not_zero n (λ z. some_none i (is_none_at i e (empty_from line (omega (arith, z, is)) (omega (arith, z, is)))))

pub count_not : (test : Standing → Bool) (line : List Entry) → count (λ s. not (test s)) line + count test line ≡ length line
count_not test [] = omega arith
count_not test (x ∷ xs) = go (test x.stands) (count_not test xs)
  where
    go : (b : Bool) → count (λ s. not (test s)) xs + count test xs ≡ length xs
        → (if not b then 1 else 0) + count (λ s. not (test s)) xs + ((if b then 1 else 0) + count test xs) ≡ suc (length xs)
    go true h = omega (arith, h)
    go false h = omega (arith, h)
