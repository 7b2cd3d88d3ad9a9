-- Lists read by number, where slots are turned into a line of frames.
use Rattle.std.proofs.Common.{◌≡◌, ◌≢◌, ℕ, zero, suc, ◌+◌, ◌-◌, ◌%◌, ◌≤◌, ◌<◌, ltb, List, [], ◌∷◌, ◌++◌, map, take, drop, length, Some, None, Option, Bool, true, false, refl, sym, ap, ◌∙◌, arith, length-drop, mod-eq_of_lt}
use Rattle.std.specs.Prelude.{slice_get, slice_index, slice_index_or, slice_set}
use Rattle.std.proofs.lemmas.Bool.{ltb-true, ltb-false}
use mathlib.Core.Option.{some, some-ne-none, some-injective}
use lib.ListN.{get_elem?}
use native.Mathlib.Nat.{add-mod_left}
use Rattle.tap_frame.specs.Frame.{FrameValue}
use Rattle.tap_ring.specs.Leaving.{present, slots_from}
use Rattle.atomic_table.specs.Seated.{TableId}
use Rattle.tap_ring.specs.declared.rule.Produced.{Produced}
use Rattle.tap_ring.specs.Tokens.{Token}
use Rattle.tap_ring.specs.Finish.{AllOfRing}
use Rattle.tap_ring.proofs.Kit.{take_next}

module _ {A : Type 0} where
  pub get_left : (xs ys : List A) (j : ℕ) → j < length xs → get_elem? (xs ++ ys) j ≡ get_elem? xs j
  get_left [] ys j lt = absurd (omega (arith, lt))
  get_left (x ∷ xs) ys zero lt = refl
  get_left (x ∷ xs) ys (suc j) lt = get_left xs ys j (omega (arith, lt))

  pub get_right : (xs ys : List A) (j : ℕ) → get_elem? (xs ++ ys) (length xs + j) ≡ get_elem? ys j
  get_right [] ys j = ap (get_elem? ys) (omega arith)
  get_right (x ∷ xs) ys j = let e : suc (length xs) + j ≡ suc (length xs + j) = omega arith in ap (get_elem? (x ∷ (xs ++ ys))) e ∙ get_right xs ys j

  pub get_take : (n : ℕ) (xs : List A) (j : ℕ) → j < n → get_elem? (take n xs) j ≡ get_elem? xs j
  get_take zero xs j lt = absurd (omega (arith, lt))
  get_take (suc n) [] j lt = refl
  get_take (suc n) (x ∷ xs) zero lt = refl
  get_take (suc n) (x ∷ xs) (suc j) lt = get_take n xs j (omega (arith, lt))

  pub get_drop : (n : ℕ) (xs : List A) (j : ℕ) → get_elem? (drop n xs) j ≡ get_elem? xs (n + j)
  get_drop zero xs j = ap (get_elem? xs) (omega arith)
  get_drop (suc n) [] j = refl
  get_drop (suc n) (x ∷ xs) j = let e : suc (n + j) ≡ suc n + j = omega arith in get_drop n xs j ∙ ap (get_elem? (x ∷ xs)) e

  pub get_there : (xs : List A) (j : ℕ) → j < length xs → (a : A) × (get_elem? xs j ≡ some a)
  get_there [] j lt = absurd (omega (arith, lt))
  get_there (x ∷ xs) zero lt = (x, refl)
  get_there (x ∷ xs) (suc j) lt = get_there xs j (omega (arith, lt))

  pub slice_there : (xs : List A) (j : ℕ) (a : A) → get_elem? xs j ≡ some a → slice_get xs j ≡ Some a
  slice_there [] j a e = absurd (some-ne-none a (sym e))
  slice_there (x ∷ xs) zero a e = ap (λ (y : A). Some y) (some-injective x a e)
  slice_there (x ∷ xs) (suc j) a e = slice_there xs j a e

  pub map_there : {B : Type 0} (f : A → B) (xs : List A) (j : ℕ) (b : B) → get_elem? (map f xs) j ≡ some b → (a : A) × (get_elem? xs j ≡ some a) × (f a ≡ b)
  map_there f [] j b e = absurd (some-ne-none b (sym e))
  map_there f (x ∷ xs) zero b e = (x, refl, some-injective (f x) b e)
  map_there f (x ∷ xs) (suc j) b e = map_there f xs j b e

  pub same_list : (xs ys : List A) → xs ≡ ys → (j : ℕ) → get_elem? xs j ≡ get_elem? ys j
  same_list xs ys e j = ap (λ l. get_elem? l j) e

-- the j-th slot from `start` on
pub rotated : (start n : ℕ) (xs : List (Option FrameValue)) (j : ℕ) → length xs ≡ n → start < n → j < n → get_elem? (slots_from start xs) j ≡ get_elem? xs ((start + j) % n)
rotated start n xs j len lt below = go (ltb (start + j) n) refl
  where
    long : length (drop start xs) ≡ n - start
    long = length-drop start xs ∙ ap (λ m. m - start) len

    go : (b : Bool) → ltb (start + j) n ≡ b → get_elem? (slots_from start xs) j ≡ get_elem? xs ((start + j) % n)
    go true t =
        let near = ltb-true (start + j) n t in
        let l = long in
        get_left (drop start xs) (take start xs) j (omega (arith, near, l)) ∙ get_drop start xs j ∙ ap (get_elem? xs) (sym (mod-eq_of_lt near))
    go false t =
        let far = ltb-false (start + j) n t in
        let l = long in
        let k : ℕ = start + j - n in
        let at : j ≡ length (drop start xs) + k = omega (arith, far, l, lt) in
        let wraps : start + j ≡ n + k = omega (arith, far) in
        let small : k < start = omega (arith, below, far, lt) in
        let inside : k < n = omega (arith, small, lt) in
        ap (get_elem? (slots_from start xs)) at ∙ get_right (drop start xs) (take start xs) k ∙ get_take start xs k small
        ∙ ap (get_elem? xs) (sym (ap (λ m. m % n) wraps ∙ add-mod_left n k ∙ mod-eq_of_lt inside))

-- slots of which the first `a` are empty, the next have these frames, and the others are empty
pub present_is : (xs : List (Option FrameValue)) (a : ℕ) (fs : List FrameValue)
    → ((j : ℕ) → j < a → j < length xs → get_elem? xs j ≡ some None)
    → ((k : ℕ) (f : FrameValue) → get_elem? fs k ≡ some f → get_elem? xs (a + k) ≡ some (Some f))
    → ((j : ℕ) → a + length fs ≤ j → j < length xs → get_elem? xs j ≡ some None)
    → present xs ≡ fs
present_is [] a [] before here after = refl
present_is [] a (f ∷ fs) before here after = absurd (some-ne-none (Some f) (sym (here 0 f refl)))
present_is (x ∷ xs) (suc a) fs before here after =
    let is = some-injective x None (before 0 (omega arith) (omega arith)) in
    ap (λ y. present (y ∷ xs)) is
    ∙ present_is xs a fs
    (λ j lt long. before (suc j) (omega (arith, lt)) (omega (arith, long)))
    (λ k f e. let z : suc (a + k) ≡ suc a + k = omega arith in ap (get_elem? (x ∷ xs)) z ∙ here k f e)
    (λ j le long. after (suc j) (omega (arith, le)) (omega (arith, long)))
present_is (x ∷ xs) zero [] before here after =
    let is = some-injective x None (after 0 (omega arith) (omega arith)) in
    ap (λ y. present (y ∷ xs)) is
    ∙ present_is xs 0 []
    (λ j lt long. absurd (omega (arith, lt)))
    (λ k f e. absurd (some-ne-none f (sym e)))
    (λ j le long. after (suc j) (omega arith) (omega (arith, long)))
present_is (x ∷ xs) zero (f ∷ fs) before here after =
    let is = some-injective x (Some f) (here 0 f refl) in
    ap (λ y. present (y ∷ xs)) is
    ∙ ap (λ l. f ∷ l) (present_is xs 0 fs
    (λ j lt long. absurd (omega (arith, lt)))
    (λ k g e. let z : suc (0 + k) ≡ 0 + suc k = omega arith in ap (get_elem? (x ∷ xs)) z ∙ here (suc k) g e)
    (λ j le long. after (suc j) (omega (arith, le)) (omega (arith, long))))

pub present_parts : (xs ys : List (Option FrameValue)) → present (xs ++ ys) ≡ present xs ++ present ys
present_parts [] ys = refl
present_parts (None ∷ xs) ys = present_parts xs ys
present_parts (Some f ∷ xs) ys = ap (λ l. f ∷ l) (present_parts xs ys)

-- one more slot of a stretch
pub present_more : (xs : List (Option FrameValue)) (low i : ℕ) (x : Option FrameValue) → low ≤ i → get_elem? xs i ≡ some x
    → present (take (i + 1 - low) (drop low xs)) ≡ present (take (i - low) (drop low xs)) ++ present (x ∷ [])
present_more xs low i x le e =
    let more : i + 1 - low ≡ suc (i - low) = omega (arith, le) in
    let at : low + (i - low) ≡ i = omega (arith, le) in
    ap (λ m. present (take m (drop low xs))) more
    ∙ ap present (take_next (i - low) (drop low xs) x (get_drop low xs (i - low) ∙ ap (get_elem? xs) at ∙ e))
    ∙ present_parts (take (i - low) (drop low xs)) (x ∷ [])

pub whole_stretch : (xs : List (Option FrameValue)) (low n : ℕ) → length xs ≡ n → take (n - low) (drop low xs) ≡ drop low xs
whole_stretch xs low n len = take_whole (drop low xs) (n - low) (length-drop low xs ∙ ap (λ m. m - low) len)
  where
    take_whole : (ys : List (Option FrameValue)) (m : ℕ) → length ys ≡ m → take m ys ≡ ys
    take_whole [] zero e = refl
    take_whole [] (suc m) e = refl
    take_whole (y ∷ ys) zero e = absurd (omega (arith, e))
    take_whole (y ∷ ys) (suc m) e = ap (λ l. y ∷ l) (take_whole ys m (omega (arith, e)))

pub index_there : (xs : List ℕ) (j a : ℕ) → get_elem? xs j ≡ some a → slice_index xs j ≡ a
index_there [] j a e = absurd (some-ne-none a (sym e))
index_there (x ∷ xs) zero a e = some-injective x a e
index_there (x ∷ xs) (suc j) a e = index_there xs j a e

pub set_false_here : (l : List Bool) (i : ℕ) → slice_index_or (slice_set l i false) i false ≡ false
set_false_here [] i = refl
set_false_here (x ∷ xs) zero = refl
set_false_here (x ∷ xs) (suc i) = set_false_here xs i

pub set_false_else : (l : List Bool) (i k : ℕ) → k ≢ i → slice_index_or (slice_set l i false) k false ≡ slice_index_or l k false
set_false_else [] i k ne = refl
set_false_else (x ∷ xs) zero zero ne = absurd (ne refl)
set_false_else (x ∷ xs) zero (suc k) ne = refl
set_false_else (x ∷ xs) (suc i) zero ne = refl
set_false_else (x ∷ xs) (suc i) (suc k) ne = set_false_else xs i k (λ e. ne (ap suc e))

-- the tokens before the last, and the last, are of the ring
pub ring_parts : (ring : TableId) (ts : List (Token Produced)) (t : Token Produced) → AllOfRing ring (ts ++ t ∷ []) → AllOfRing ring ts × (t.ring ≡ ring)
ring_parts ring [] t a = (tt, a.0)
ring_parts ring (x ∷ xs) t a = let r = ring_parts ring xs t a.1 in ((a.0, r.0), r.1)
