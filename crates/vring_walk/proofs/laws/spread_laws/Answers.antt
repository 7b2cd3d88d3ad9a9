use Rattle.std.proofs.Common.{◌≡◌, ℕ, zero, suc, ◌+◌, ◌-◌, ◌≤◌, ◌⊎◌, inl, inr, Bool, true, false, not, ◌&&◌, cond, eqb, nat_lt, nat_le, min, List, [], ◌∷◌, ◌++◌, length, take, drop, get_or, refl, sym, ap, ◌∙◌, arith}
use Rattle.std.proofs.lemmas.Bool.Decides.{nat_tests}
use Rattle.std.proofs.lemmas.List.{append-nil, length-take, take-append-le}
use Rattle.std.proofs.Math.Seq.{take-append-add}
use Rattle.guest_mem.specs.Memory.{ByteList, value_at, filled, bytes_from, with_bytes}
use Rattle.vring_split.specs.declared.segment.Segment.{Segment}
use Rattle.vring_walk.specs.Spread.{is_outside, laid, gathered, first_gathered}
use Rattle.vring_walk.proofs.Gathered.{length-bytes_from, length-first}
use Rattle.vring_walk.proofs.laws.spread_laws.Goals as goal

take-filled : (k n : ℕ) (bs : ByteList) (a : ℕ) → k ≤ n → take k (filled bs a n) ≡ filled bs a k
take-filled zero n bs a le = refl
take-filled (suc k) zero bs a le = absurd (omega arith)
take-filled (suc k) (suc n) [] a le = ap (λ (xs : List ℕ). 0 ∷ xs) (take-filled k n [] (a + 1) (omega arith))
take-filled (suc k) (suc n) (e ∷ es) a le =
    ap (λ (xs : List ℕ). cond (eqb e.0 a) e.1 0 ∷ xs) (take-filled k n (cond (eqb e.0 a) es (e ∷ es)) (a + 1) (omega arith))

take-bytes_from : (bs : ByteList) (a n k : ℕ) → k ≤ n → take k (bytes_from bs a n) ≡ bytes_from bs a k
unfolding bytes_from
take-bytes_from bs a n k le = take-filled k n _ a le

-- the front of bytes of a length and of others behind them
front_of : (bs : ByteList) (a len n : ℕ) (first behind : List ℕ) → first ≡ take (n - len) behind → bytes_from bs a (min len n) ++ first ≡ take n (bytes_from bs a len ++ behind)
front_of bs a len n first behind e = elim (cases len n) [
  | inl le ↦
      let whole : length (bytes_from bs a len) + (n - len) ≡ n = omega (arith, length-bytes_from bs a len) in
      let least : min len n ≡ len = omega arith in
      (λ i. bytes_from bs a (least i) ++ e i) ∙ sym (take-append-add (bytes_from bs a len) behind (n - len)) ∙ ap (λ k. take k (bytes_from bs a len ++ behind)) whole
  | inr le ↦
      let none : n - len ≡ 0 = omega arith in
      let least : min len n ≡ n = omega arith in
      let within : n ≤ length (bytes_from bs a len) = omega (arith, length-bytes_from bs a len) in
      (λ i. bytes_from bs a (least i) ++ e i) ∙ ap (λ k. bytes_from bs a n ++ take k behind) none ∙ append-nil (bytes_from bs a n)
      ∙ sym (take-bytes_from bs a len n le) ∙ sym (take-append-le n (bytes_from bs a len) behind within)
]
  where
    cases : (a b : ℕ) → (a ≤ b) ⊎ (b ≤ a)
    cases a b = grind arith

take-nil : (n : ℕ) → [] ≡ take {A = ℕ} n []
take-nil zero = refl
take-nil (suc n) = refl

front : (bs : ByteList) (n : ℕ) (segments : List Segment) → first_gathered n bs segments ≡ take n (gathered bs segments)
front bs n [] = take-nil n
front bs n (s ∷ ss) = front_of bs s.addr s.len n (first_gathered (n - s.len) bs ss) (gathered bs ss) (front bs (n - s.len) ss)

pub returns-clause-front : goal.returns-clause-front
returns-clause-front c = λ bs n segments. front bs n segments

-- the byte at an address after a write
abbrev ByteAfter : Type 0
ByteAfter = (bs : ByteList) (a : ℕ) (xs : List ℕ) (x : ℕ) → value_at (with_bytes bs a xs) x ≡ cond (nat_le a x && nat_lt x (a + length xs)) (get_or xs (x - a) 0) (value_at bs x)

both : (b c : Bool) → (not b && c) ≡ true → (b ≡ false) × (c ≡ true)
both true c e = absurd (cc)
both false c e = (refl, e)

-- a piece of a range that does not have an address has it neither
narrower : (a n m x : ℕ) → (nat_le a x && nat_lt x (a + n)) ≡ false → m ≤ n → (nat_le a x && nat_lt x (a + m)) ≡ false
narrower a n m x t le = grind (arith, nat_tests)

elsewhere : ByteAfter → (bs : ByteList) (segments : List Segment) (xs : List ℕ) (a : ℕ) → is_outside segments a ≡ true → value_at (laid bs segments xs) a ≡ value_at bs a
elsewhere after bs [] xs a out = refl
elsewhere after bs (s ∷ ss) xs a out =
    let off = both (nat_le s.addr a && nat_lt a (s.addr + s.len)) (is_outside ss a) out in
    let piece = take s.len xs in
    let within : length piece ≤ s.len = omega (arith, length-take s.len xs) in
    elsewhere after (with_bytes bs s.addr piece) ss (drop s.len xs) a off.1
    ∙ after bs s.addr piece a
    ∙ ap (λ t. cond t (get_or piece (a - s.addr) 0) (value_at bs a)) (narrower s.addr s.len (length piece) a off.0 within)

pub returns-clause-elsewhere : goal.returns-clause-elsewhere
returns-clause-elsewhere c = λ bs segments xs a out. elsewhere c.write_laws.ensures.byte bs segments xs a out

pub returns-clause-count : goal.returns-clause-count
returns-clause-count c = λ bs n segments. length-first bs segments n
