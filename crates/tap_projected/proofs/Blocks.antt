-- Lists that are made block by block from things by number: of each thing one block, whose elements have its number.
use Rattle.std.proofs.Common.{◌≡◌, ℕ, zero, suc, ◌+◌, ◌<◌, cond, List, [], ◌∷◌, ◌++◌, map, Option, Some, None, Bool, true, false, refl, sym, ap, ◌∙◌, subst, inl, inr, ⊎_elim, arith}
use Rattle.std.specs.Prelude.{◌==◌, filter}
use Rattle.std.proofs.lemmas.List.{append-nil}
use Rattle.std.proofs.lemmas.List.Elements.{filter-append}
use Rattle.tap_world.specs.ByNumber.{at, numbered}
use Rattle.tap_sound.proofs.Kit.{some_same}
use Rattle.tap_sound.proofs.Turned.{itself, others}
use Rattle.tap_sights.specs.Sight.{In, Ordered}
use Rattle.tap_projected.proofs.Lists.{in_either, in_map, ordered_append}

-- ---- things by number

-- what has a number is there, and what is there has its number
pub in_numbered : {A : Type 0} (n k : ℕ) (xs : List (Option A)) (x : A) → at xs k ≡ Some x → In (n + k, x) (numbered n xs)
in_numbered n k [] x e = absurd (cc (e))
in_numbered n zero (None ∷ xs) x e = absurd (cc (e))
in_numbered n zero (Some y ∷ xs) x e =
    inl (ap (λ z. (n, z)) (some_same y x e) ∙ ap (λ m. (m, x)) (let z : n ≡ n + 0 = omega arith in z))
in_numbered n (suc k) (None ∷ xs) x e =
    subst (λ m. In (m, x) (numbered (n + 1) xs)) (let z : n + 1 + k ≡ n + suc k = omega arith in z) (in_numbered (n + 1) k xs x e)
in_numbered n (suc k) (Some y ∷ xs) x e =
    inr (subst (λ m. In (m, x) (numbered (n + 1) xs)) (let z : n + 1 + k ≡ n + suc k = omega arith in z) (in_numbered (n + 1) k xs x e))

-- an element of the numbered ones: its number is so many above the first, and there it stands
pub record IsNumbered {A : Type 0} (n : ℕ) (xs : List (Option A)) (v : ℕ × A) : Type 0 where
  pub k : ℕ
  pub is : v.0 ≡ n + k
  pub there : at xs k ≡ Some v.1

pub of_numbered : {A : Type 0} (n : ℕ) (xs : List (Option A)) (v : ℕ × A) → In v (numbered n xs) → IsNumbered n xs v
of_numbered n [] v i = absurd i
of_numbered n (None ∷ xs) v i =
    let r = of_numbered (n + 1) xs v i in
    let is = r.is in
    record { k = suc r.k; is = omega (arith, is); there = r.there }
of_numbered n (Some x ∷ xs) v (inl e) =
    let number = ap (λ p. p.0) e in
    record { k = 0; is = omega (arith, number); there = ap (λ p. Some p.1) e }
of_numbered n (Some x ∷ xs) v (inr i) =
    let r = of_numbered (n + 1) xs v i in
    let is = r.is in
    record { k = suc r.k; is = omega (arith, is); there = r.there }

-- ---- blocks

-- the blocks of things from a number on; of each the elements have its number, and their values are its content
abbrev pub Blocks : {A B V : Type 0} → (A → List V) → (B → ℕ) → (B → V) → ℕ → List (Option A) → List B → Type 0
Blocks content key value n [] ys = ys ≡ []
Blocks content key value n (None ∷ xs) ys = Blocks content key value (n + 1) xs ys
Blocks {A} {B} {V} content key value n (Some x ∷ xs) ys =
    (front : List B) × (rest : List B) × (ys ≡ front ++ rest) × ((y : B) → In y front → key y ≡ n) × (map value front ≡ content x)
    × Blocks content key value (n + 1) xs rest

module _ {A B V : Type 0} (content : A → List V) (key : B → ℕ) (value : B → V) where
  -- an element of blocks: its thing, in whose content its value is
  pub of_blocks : (n : ℕ) (xs : List (Option A)) (ys : List B) (y : B) → Blocks content key value n xs ys → In y ys
      → (k : ℕ) × (x : A) × (key y ≡ n + k) × (at xs k ≡ Some x) × In (value y) (content x)
  of_blocks n [] ys y h i = absurd (subst (In y) h i)
  of_blocks n (None ∷ xs) ys y h i =
      let r = of_blocks (n + 1) xs ys y h i in
      let is = r.2 in
      (suc r.0, r.1, omega (arith, is), r.3, r.4)
  of_blocks n (Some x ∷ xs) ys y h i = ⊎_elim
      (λ j. let is = h.3 y j in (0, x, omega (arith, is), refl, subst (In (value y)) h.4 (in_map value h.0 y j)))
      (λ j.
      let r = of_blocks (n + 1) xs h.1 y h.5 j in
      let is = r.2 in
      (suc r.0, r.1, omega (arith, is), r.3, r.4))
      (in_either y h.0 h.1 (subst (In y) h.2 i))

  none_kept : (m : ℕ) (ys : List B) → ((y : B) → In y ys → m < key y) → filter (λ y. key y == m) ys ≡ []
  none_kept m [] above = refl
  none_kept m (y ∷ ys) above =
      let other : (key y == m) ≡ false = others (key y) m (λ e. let lt = above y (inl refl) in omega (arith, e, lt)) in
      let rest = filter (λ z. key z == m) ys in
      ap (λ (b : Bool). cond b (y ∷ rest) rest) other ∙ none_kept m ys (λ z i. above z (inr i))

  none_before : (m : ℕ) (ys : List B) → ((y : B) → In y ys → key y < m) → filter (λ y. key y == m) ys ≡ []
  none_before m [] below = refl
  none_before m (y ∷ ys) below =
      let other : (key y == m) ≡ false = others (key y) m (λ e. let lt = below y (inl refl) in omega (arith, e, lt)) in
      let rest = filter (λ z. key z == m) ys in
      ap (λ (b : Bool). cond b (y ∷ rest) rest) other ∙ none_before m ys (λ z i. below z (inr i))

  all_kept : (m : ℕ) (ys : List B) → ((y : B) → In y ys → key y ≡ m) → filter (λ y. key y == m) ys ≡ ys
  all_kept m [] same = refl
  all_kept m (y ∷ ys) same =
      let own : (key y == m) ≡ true = ap (λ j. j == m) (same y (inl refl)) ∙ itself m in
      let rest = filter (λ z. key z == m) ys in
      ap (λ (b : Bool). cond b (y ∷ rest) rest) own ∙ ap (λ t. y ∷ t) (all_kept m ys (λ z i. same z (inr i)))

  -- the elements of a number are the content of the thing that has it
  pub block_at : (n k : ℕ) (xs : List (Option A)) (ys : List B) (x : A) → Blocks content key value n xs ys → at xs k ≡ Some x
      → map value (filter (λ y. key y == n + k) ys) ≡ content x
  block_at n k [] ys x h e = absurd (cc (e))
  block_at n zero (None ∷ xs) ys x h e = absurd (cc (e))
  block_at n (suc k) (None ∷ xs) ys x h e =
      ap (λ m. map value (filter (λ y. key y == m) ys)) (let z : n + suc k ≡ n + 1 + k = omega arith in z) ∙ block_at (n + 1) k xs ys x h e
  block_at n zero (Some z ∷ xs) ys x h e =
      let behind : (y : B) → In y h.1 → n < key y = λ y i. let r = of_blocks (n + 1) xs h.1 y h.5 i in let is = r.2 in omega (arith, is) in
      ap (λ m. map value (filter (λ y. key y == m) ys)) (let q : n + 0 ≡ n = omega arith in q)
      ∙ ap (λ t. map value (filter (λ y. key y == n) t)) h.2
      ∙ ap (map value) (filter-append (λ y. key y == n) h.0 h.1)
      ∙ ap (λ t. map value (t ++ filter (λ y. key y == n) h.1)) (all_kept n h.0 h.3)
      ∙ ap (λ t. map value (h.0 ++ t)) (none_kept n h.1 behind)
      ∙ ap (map value) (append-nil h.0) ∙ h.4 ∙ ap content (some_same z x e)
  block_at n (suc k) (Some z ∷ xs) ys x h e =
      let front : (y : B) → In y h.0 → key y < n + suc k = λ y i. let is = h.3 y i in omega (arith, is) in
      ap (λ t. map value (filter (λ y. key y == n + suc k) t)) h.2
      ∙ ap (map value) (filter-append (λ y. key y == n + suc k) h.0 h.1)
      ∙ ap (λ t. map value (t ++ filter (λ y. key y == n + suc k) h.1)) (none_before (n + suc k) h.0 front)
      ∙ ap (λ j. map value (filter (λ y. key y == j) h.1)) (let q : n + suc k ≡ n + 1 + k = omega arith in q)
      ∙ block_at (n + 1) k xs h.1 x h.5 e

  -- where each block is in order, and elements of two blocks are, all is
  pub blocks_ordered : (R : B → B → Type 0) → ((y z : B) → key y < key z → R y z)
      → (n : ℕ) (xs : List (Option A)) (ys : List B)
      → ((k : ℕ) (x : A) → at xs k ≡ Some x → (front : List B) → map value front ≡ content x → Ordered R front)
      → Blocks content key value n xs ys → Ordered R ys
  blocks_ordered R apart n [] ys each h = subst (Ordered R) (sym h) tt
  blocks_ordered R apart n (None ∷ xs) ys each h = blocks_ordered R apart (n + 1) xs ys (λ k. each (suc k)) h
  blocks_ordered R apart n (Some x ∷ xs) ys each h =
      subst (Ordered R) (sym h.2) (ordered_append R h.0 h.1 (each 0 x refl h.0 h.4)
      (blocks_ordered R apart (n + 1) xs h.1 (λ k. each (suc k)) h.5)
      (λ y z i j.
      let r = of_blocks (n + 1) xs h.1 z h.5 j in
      let later = r.2 in
      let own = h.3 y i in
      apart y z (omega (arith, later, own))))
