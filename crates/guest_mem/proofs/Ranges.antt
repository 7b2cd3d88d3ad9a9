-- The bytes of a range, one by one.
use Rattle.std.proofs.Common.{◌≡◌, ℕ, zero, suc, ◌+◌, ◌-◌, ◌≤◌, List, [], ◌∷◌, length, take, drop, Option, Some, unwrap_or, refl, ap, ◌∙◌, arith}
use Rattle.guest_mem.specs.Memory.{bytes_at, HoldsBy}

-- what stands at an address is what is read there
pub bytes_at-holds : (by : ℕ → Option ℕ) (a : ℕ) (bytes : List ℕ) → HoldsBy by a bytes → bytes_at by a (length bytes) ≡ bytes
unfolding bytes_at
bytes_at-holds by a [] h = refl
bytes_at-holds by a (x ∷ xs) h =
    let here : by a ≡ Some x = (let e : a ≡ a + 0 = omega arith in ap by e) ∙ h zero (omega arith) in
    let rest = bytes_at-holds by (a + 1) xs (λ k lt. (let e : a + 1 + k ≡ a + suc k = omega arith in ap by e) ∙ h (suc k) (omega arith)) in
    (λ i. unwrap_or (here i) 0 ∷ rest i)

pub length_bytes_at : (by : ℕ → Option ℕ) (a n : ℕ) → length (bytes_at by a n) ≡ n
unfolding bytes_at
length_bytes_at by a zero = refl
length_bytes_at by a (suc n) = ap suc (length_bytes_at by (a + 1) n)

front-bytes_at : (by : ℕ → Option ℕ) (a n m : ℕ) → m ≤ n → take m (bytes_at by a n) ≡ bytes_at by a m
unfolding bytes_at
front-bytes_at by a n zero le = refl
front-bytes_at by a zero (suc m) le = absurd (omega arith)
front-bytes_at by a (suc n) (suc m) le = ap (λ (xs : List ℕ). unwrap_or (by a) 0 ∷ xs) (front-bytes_at by (a + 1) n m (omega arith))

behind-bytes_at : (by : ℕ → Option ℕ) (a n k m : ℕ) → k + m ≤ n → take m (drop k (bytes_at by a n)) ≡ bytes_at by (a + k) m
unfolding bytes_at
behind-bytes_at by a n zero m le = let e : a ≡ a + 0 = omega arith in front-bytes_at by a n m (omega arith) ∙ ap (λ b. bytes_at by b m) e
behind-bytes_at by a zero (suc k) m le = absurd (omega arith)
behind-bytes_at by a (suc n) (suc k) m le =
    let e : a + 1 + k ≡ a + suc k = omega arith in behind-bytes_at by (a + 1) n k m (omega arith) ∙ ap (λ b. bytes_at by b m) e

-- a part of the bytes of a range is what a part of it has
pub part-bytes_at : (by : ℕ → Option ℕ) (a n k m : ℕ) → k + m ≤ n → take (k + m - k) (drop k (bytes_at by a n)) ≡ bytes_at by (a + k) m
part-bytes_at by a n k m le =
    let len : k + m - k ≡ m = omega arith in (λ i. take (len i) (drop k (bytes_at by a n))) ∙ behind-bytes_at by a n k m le
