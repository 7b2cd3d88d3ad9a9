-- Bytes of a memory that was written.
use Rattle.std.proofs.Common.{◌≡◌, ℕ, zero, suc, ◌+◌, ◌<◌, ◌≤◌, List, [], ◌∷◌, length, Option, Some, true, unwrap_or, refl, ap, ◌∙◌, sym, arith, subst}
use Rattle.guest_mem.specs.Memory.{Contents, byte_at, bytes_at, covers, written, HoldsBy, WrittenBy}
use Rattle.guest_mem.specs.Laws.{WritesBytes}

-- what stands at an address is what is read there
pub holds_bytes : (by : ℕ → Option ℕ) (a : ℕ) (bytes : List ℕ) → HoldsBy by a bytes → bytes_at by a (length bytes) ≡ bytes
unfolding bytes_at
holds_bytes by a [] h = refl
holds_bytes by a (x ∷ xs) h =
    let here : by a ≡ Some x = (let e : a ≡ a + 0 = omega arith in ap by e) ∙ h zero (omega arith) in
    let rest = holds_bytes by (a + 1) xs (λ k lt. (let e : a + 1 + k ≡ a + suc k = omega arith in ap by e) ∙ h (suc k) (omega arith)) in
    (λ i. unwrap_or (here i) 0 ∷ rest i)

-- where two memories have the same byte at each address they have the same bytes
pub same_bytes :
    (old new : ℕ → Option ℕ) (a n : ℕ)
    → ((x : ℕ) → a ≤ x → x < a + n → new x ≡ old x) → bytes_at new a n ≡ bytes_at old a n
unfolding bytes_at
same_bytes old new a zero h = refl
same_bytes old new a (suc n) h =
    let here : new a ≡ old a = h a (omega arith) (omega arith) in
    let rest = same_bytes old new (a + 1) n (λ x low high. h x (omega arith) (omega arith)) in
    (λ i. unwrap_or (here i) 0 ∷ rest i)

-- a write leaves the bytes in front of it and behind it
pub before_write :
    (old new : ℕ → Option ℕ) (a : ℕ) (xs : List ℕ) (b n : ℕ)
    → WrittenBy old new a xs → b + n ≤ a → bytes_at new b n ≡ bytes_at old b n
before_write old new a xs b n w h = same_bytes old new b n (λ x low high. w.before x (omega arith))

pub behind_write :
    (old new : ℕ → Option ℕ) (a : ℕ) (xs : List ℕ) (b n : ℕ)
    → WrittenBy old new a xs → a + length xs ≤ b → bytes_at new b n ≡ bytes_at old b n
behind_write old new a xs b n w h = same_bytes old new b n (λ x low high. w.after x (omega arith))

-- the same of a memory, where the bytes of the write are there
pub written_there :
    WritesBytes → (m : Contents) (a n : ℕ) (xs : List ℕ)
    → length xs ≡ n → covers m.regions a n ≡ true → WrittenBy (byte_at m) (byte_at (written m a xs)) a xs
written_there writes m a n xs e h = writes m a xs (subst (λ (k : ℕ). covers m.regions a k ≡ true) (sym e) h)

pub at_write :
    WritesBytes → (m : Contents) (a n : ℕ) (xs : List ℕ)
    → length xs ≡ n → covers m.regions a n ≡ true → bytes_at (byte_at (written m a xs)) a n ≡ xs
at_write writes m a n xs e h =
    let w = written_there writes m a n xs e h in
    ap (λ (k : ℕ). bytes_at (byte_at (written m a xs)) a k) (sym e) ∙ holds_bytes (byte_at (written m a xs)) a xs w.written
