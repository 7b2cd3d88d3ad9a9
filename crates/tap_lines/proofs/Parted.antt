-- That the batch stands before the ring stays so.
use Rattle.std.proofs.Common.{◌≡◌, ℕ, zero, suc, ◌+◌, List, [], ◌∷◌, ◌++◌, Bool, true, false, Some, refl, sym, ap, ◌∙◌, subst, true≢false, arith}
use Rattle.std.specs.Prelude.{if◌then◌else◌, option_map, slice_get}
use Rattle.tap_world.specs.declared.line.Entry.{Entry}
use Rattle.tap_world.specs.declared.line.Standing.{Standing}
use Rattle.tap_world.specs.declared.line.Standing.TheVariants.{Batched, Claimed, Cut, Out, Ready}
use Rattle.tap_world.specs.Line.{first_that, in_batch, in_ring}
use Rattle.tap_world.specs.LineSteps.{restand}
use Rattle.tap_lines.specs.Indexed.{AreParted, places_that}
use Rattle.tap_lines.proofs.Kit.{next_some, none_some, some_same}
use Rattle.tap_lines.proofs.Places.{first_more, first_same, places_none}

pub not_batched : (s : Standing) → in_ring s ≡ true → in_batch s ≡ false
not_batched (Claimed actor) e = refl
not_batched Ready e = refl
not_batched Batched e = absurd (true≢false (sym e))
not_batched (Out fate) e = refl
not_batched Cut e = refl

pub not_in_ring : (s : Standing) → in_batch s ≡ true → in_ring s ≡ false
not_in_ring (Claimed actor) e = absurd (true≢false (sym e))
not_in_ring Ready e = absurd (true≢false (sym e))
not_in_ring Batched e = refl
not_in_ring (Out fate) e = refl
not_in_ring Cut e = refl

pub parted_more : (line : List Entry) (e : Entry) → in_batch e.stands ≡ false → AreParted line → AreParted (line ++ e ∷ [])
parted_more [] e off p = (λ r. refl, tt)
parted_more (x ∷ xs) e off p = (λ r. first_more in_batch xs e off ∙ p.0 r, parted_more xs e off p.1)

-- an entry that isn't of the batch, and doesn't join batch or ring
pub parted_same : (i : ℕ) (s : Standing) (line : List Entry) (e : Entry) → slice_get line i ≡ Some e → in_batch e.stands ≡ false → in_batch s ≡ false
    → (in_ring s ≡ true → in_ring e.stands ≡ true) → AreParted line → AreParted (restand i s line)
parted_same i s [] e at off new ring p = tt
parted_same zero s (x ∷ xs) e at off new ring p = (λ r. p.0 (ap (λ (y : Entry). in_ring y.stands) (some_same x e at) ∙ ring r), p.1)
parted_same (suc i) s (x ∷ xs) e at off new ring p = (λ r. first_same in_batch i s xs e at (off ∙ sym new) ∙ p.0 r, parted_same i s xs e at off new ring p.1)

-- the ring's front joins the batch
pub parted_moved : (line : List Entry) (i : ℕ) → first_that in_ring line ≡ Some i → AreParted line → AreParted (restand i Batched line)
parted_moved [] i h p = tt
parted_moved (x ∷ xs) i h p = go (in_ring x.stands) refl h (parted_moved xs)
  where
    go : (b : Bool) → in_ring x.stands ≡ b → (if b then Some 0 else option_map (λ j. j + 1) (first_that in_ring xs)) ≡ Some i
        → ((j : ℕ) → first_that in_ring xs ≡ Some j → AreParted xs → AreParted (restand j Batched xs)) → AreParted (restand i Batched (x ∷ xs))
    go true t g rest = subst (λ (n : ℕ). AreParted (restand n Batched (x ∷ xs))) (some_same 0 i g) (λ r. absurd (true≢false (sym r)), p.1)
    go false t g rest =
        let n = next_some (first_that in_ring xs) i g in let up : suc n.0 ≡ i = omega (arith, n.2) in
        subst (λ (m : ℕ). AreParted (restand m Batched (x ∷ xs))) up (λ r. absurd (true≢false (sym r ∙ t)), rest n.0 n.1 p.1)

-- the batch's front leaves
pub parted_left : (line : List Entry) (i : ℕ) (s : Standing) → first_that in_batch line ≡ Some i → in_ring s ≡ false → AreParted line → AreParted (restand i s line)
parted_left [] i s h off p = tt
parted_left (x ∷ xs) i s h off p = go (in_batch x.stands) h (parted_left xs)
  where
    go : (b : Bool) → (if b then Some 0 else option_map (λ j. j + 1) (first_that in_batch xs)) ≡ Some i
        → ((j : ℕ) (s : Standing) → first_that in_batch xs ≡ Some j → in_ring s ≡ false → AreParted xs → AreParted (restand j s xs)) → AreParted (restand i s (x ∷ xs))
    go true g rest = subst (λ (n : ℕ). AreParted (restand n s (x ∷ xs))) (some_same 0 i g) (λ r. absurd (true≢false (sym r ∙ off)), p.1)
    go false g rest =
        let n = next_some (first_that in_batch xs) i g in let up : suc n.0 ≡ i = omega (arith, n.2) in
        subst (λ (m : ℕ). AreParted (restand m s (x ∷ xs))) up (λ r. absurd (none_some _ _ (p.0 r) n.1), rest n.0 s n.1 off p.1)

-- so its place is behind those of the batch
pub places_join : (k : ℕ) (line : List Entry) (i : ℕ) → AreParted line → first_that in_ring line ≡ Some i
    → places_that in_batch k (restand i Batched line) ≡ places_that in_batch k line ++ (k + i) ∷ []
places_join k [] i p h = absurd (cc (h))
places_join k (x ∷ xs) i p h = go (in_ring x.stands) refl h (places_join (k + 1) xs)
  where
    one_last : (b : Bool) (n : ℕ) (ys zs : List ℕ) → ys ≡ zs ++ n ∷ [] → (if b then k ∷ ys else ys) ≡ (if b then k ∷ zs else zs) ++ n ∷ []
    one_last true n ys zs e = ap (λ (l : List ℕ). k ∷ l) e
    one_last false n ys zs e = e

    go : (b : Bool) → in_ring x.stands ≡ b → (if b then Some 0 else option_map (λ j. j + 1) (first_that in_ring xs)) ≡ Some i
        → ((j : ℕ) → AreParted xs → first_that in_ring xs ≡ Some j → places_that in_batch (k + 1) (restand j Batched xs) ≡ places_that in_batch (k + 1) xs ++ (k + 1 + j) ∷ [])
        → places_that in_batch k (restand i Batched (x ∷ xs)) ≡ places_that in_batch k (x ∷ xs) ++ (k + i) ∷ []
    go true t g rest =
        let z : k ≡ k + 0 = omega arith in
        let at_zero : places_that in_batch k (restand 0 Batched (x ∷ xs)) ≡ places_that in_batch k (x ∷ xs) ++ (k + 0) ∷ [] =
        rw (not_batched x.stands t, places_none in_batch (k + 1) xs (p.0 t)) (ap (λ (n : ℕ). n ∷ []) z) in
        subst (λ (n : ℕ). places_that in_batch k (restand n Batched (x ∷ xs)) ≡ places_that in_batch k (x ∷ xs) ++ (k + n) ∷ []) (some_same 0 i g) at_zero
    go false t g rest =
        let n = next_some (first_that in_ring xs) i g in let up : suc n.0 ≡ i = omega (arith, n.2) in
        let z : k + 1 + n.0 ≡ k + suc n.0 = omega arith in
        let more : places_that in_batch (k + 1) (restand n.0 Batched xs) ≡ places_that in_batch (k + 1) xs ++ (k + suc n.0) ∷ [] =
        rest n.0 p.1 n.1 ∙ ap (λ (m : ℕ). places_that in_batch (k + 1) xs ++ m ∷ []) z in
        subst (λ (m : ℕ). places_that in_batch k (restand m Batched (x ∷ xs)) ≡ places_that in_batch k (x ∷ xs) ++ (k + m) ∷ []) up
        (one_last (in_batch x.stands) (k + suc n.0) _ _ more)
