-- Lemmas about lists by age.
use Rattle.std.proofs.Common.{◌≡◌, ℕ, ◌<◌, ◌≤◌, List, [], ◌∷◌, ◌++◌, subst, arith}
use Rattle.tap_ground.specs.Lists.{times}
use Rattle.std.specs.List.{AllByRecursion}
use Rattle.tap_flows.specs.Nodes.{IsRising}
use Rattle.tap_flows.proofs.RingLemmas.{times_head, times_split}

-- what holds of each that stands in a list
pub each_from : (P : ℕ → Type 0) (xs : List ℕ) → ((k : ℕ) → 0 < times k xs → P k) → AllByRecursion P xs
each_from P [] h = tt
each_from P (x ∷ xs) h = (h x (omega (arith, times_head x xs)), each_from P xs (λ k some. h k (omega arith)))

pub each_append_left : (P : ℕ → Type 0) (xs ys : List ℕ) → AllByRecursion P (xs ++ ys) → AllByRecursion P xs
each_append_left P [] ys h = tt
each_append_left P (x ∷ xs) ys h = (h.0, each_append_left P xs ys h.1)

pub each_append_right : (P : ℕ → Type 0) (xs ys : List ℕ) → AllByRecursion P (xs ++ ys) → AllByRecursion P ys
each_append_right P [] ys h = h
each_append_right P (x ∷ xs) ys h = each_append_right P xs ys h.1

pub each_append : (P : ℕ → Type 0) (xs ys : List ℕ) → AllByRecursion P xs → AllByRecursion P ys → AllByRecursion P (xs ++ ys)
each_append P [] ys h k = k
each_append P (x ∷ xs) ys h k = (h.0, each_append P xs ys h.1 k)

pub each_at : (P : ℕ → Type 0) (xs : List ℕ) (n : ℕ) → 0 < times n xs → AllByRecursion P xs → P n
each_at P xs n some h =
    let parts = times_split n xs some in
    (each_append_right P parts.0 (n ∷ parts.1) (subst (AllByRecursion P) parts.2 h)).0

-- times that never fall still don't without one
pub rising_without : (f : ℕ → ℕ) (xs : List ℕ) (n : ℕ) (ys : List ℕ) → IsRising f (xs ++ n ∷ ys) → IsRising f (xs ++ ys)
rising_without f [] n ys r = r.1
rising_without f (x ∷ xs) n ys r = (
  let above = r.0 in each_append (λ y. f x ≤ f y) xs ys (each_append_left (λ y. f x ≤ f y) xs (n ∷ ys) above) (each_append_right (λ y. f x ≤ f y) xs (n ∷ ys) above).1,
  rising_without f xs n ys r.1,
)

-- nor with one at the end that is at least each
pub rising_push : (f : ℕ → ℕ) (xs : List ℕ) (n : ℕ) → IsRising f xs → ((k : ℕ) → 0 < times k xs → f k ≤ f n) → IsRising f (xs ++ n ∷ [])
rising_push f [] n r h = (tt, tt)
rising_push f (x ∷ xs) n r h = (
  each_append (λ y. f x ≤ f y) xs (n ∷ []) r.0 (h x (omega (arith, times_head x xs)), tt),
  rising_push f xs n r.1 (λ k some. h k (omega arith)),
)

-- nor under other words for the same times
pub rising_same : (f g : ℕ → ℕ) (xs : List ℕ) → ((k : ℕ) → 0 < times k xs → g k ≡ f k) → IsRising f xs → IsRising g xs
rising_same f g [] same r = tt
rising_same f g (x ∷ xs) same r =
    let here = same x (omega (arith, times_head x xs)) in (
      each_from (λ y. g x ≤ g y) xs (λ k some. let above = each_at (λ y. f x ≤ f y) xs k some r.0 in omega (arith, same k (omega arith))),
      rising_same f g xs (λ k some. same k (omega arith)) r.1,
    )
