-- A room that takes what fits, and segments that are put into it.
use Rattle.std.proofs.Common.{◌≡◌, ℕ, zero, suc, ◌≤◌, List, [], ◌∷◌, ◌++◌, length, take, false, cond, refl, ap, arith}
use Rattle.vring_split.specs.Split.{is_indirect}
use Rattle.vring_walk.specs.Chain.{Look, Place, desc_at, segment_of, segments_of}

-- to take again what was cut changes nothing
pub take-take_append : {X : Type 0} (n : ℕ) (xs ys : List X) → take n (take n xs ++ ys) ≡ take n (xs ++ ys)
take-take_append zero xs ys = refl
take-take_append (suc n) [] ys = refl
take-take_append {X = X} (suc n) (x ∷ xs) ys = ap (λ (zs : List X). x ∷ zs) (take-take_append n xs ys)

-- a full list takes nothing
pub take_full : {X : Type 0} (n : ℕ) (xs ys : List X) → n ≡ length xs → take n (xs ++ ys) ≡ xs
take_full zero [] ys h = refl
take_full zero (x ∷ xs) ys h = absurd (omega arith)
take_full (suc n) [] ys h = absurd (omega arith)
take_full {X = X} (suc n) (x ∷ xs) ys h = ap (λ (zs : List X). x ∷ zs) (take_full n xs ys (omega arith))

-- the front of what fits is the front of the whole
pub take_front : {X : Type 0} (k n : ℕ) (xs ys : List X) → k ≡ length xs → k ≤ n → take k (take n (xs ++ ys)) ≡ xs
take_front zero n [] ys h le = refl
take_front zero n (x ∷ xs) ys h le = absurd (omega arith)
take_front (suc k) n [] ys h le = absurd (omega arith)
take_front (suc k) zero (x ∷ xs) ys h le = absurd (omega arith)
take_front {X = X} (suc k) (suc n) (x ∷ xs) ys h le = ap (λ (zs : List X). x ∷ zs) (take_front k n xs ys (omega arith) (omega arith))

-- a descriptor that refers to no table is one segment more
pub segments_more : (look : Look) (p : Place) (behind : List Place) → is_indirect (desc_at look p) ≡ false → segments_of look (p ∷ behind) ≡ segments_of look behind ++ segment_of (desc_at look p) ∷ []
segments_more look p behind plain = ap (λ b. segments_of look behind ++ cond b [] (segment_of (desc_at look p) ∷ [])) plain
