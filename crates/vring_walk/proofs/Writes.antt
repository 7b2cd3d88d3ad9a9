-- Two writes, one behind the other, are one.
use Rattle.std.proofs.Common.{◌≡◌, ℕ, ◌+◌, ◌-◌, ◌<◌, ◌≤◌, ◌⊎◌, inl, inr, true, false, ◌&&◌, nat_le, nat_lt, List, ◌++◌, length, take, drop, get_or, IsTrue, refl, sym, ap, ◌∙◌, arith, if◌then◌else◌}
use Rattle.std.proofs.lemmas.List.{get_or_append_left, get_or-append_right, length-append, length-drop, drop-append-le}
use Rattle.std.proofs.Math.Seq.{take-append-add}
use Rattle.std.proofs.lemmas.Bool.Decides.{nat_tests}
use Rattle.guest_mem.specs.Memory.{ByteList, Contents, value_at, covers, with_bytes, written}
use Rattle.guest_mem.specs.Regions.{IsSound}
use Rattle.guest_mem.specs.Laws.{PartsAreCovered, SameBytesOneList, ByteAfterWrite, WritesSoundly}

inside : (p q z : ℕ) → p ≤ z → z < q → (nat_le p z && nat_lt z q) ≡ true
inside p q z l h = grind (arith, nat_tests)

below : (p q z : ℕ) → z < p → (nat_le p z && nat_lt z q) ≡ false
below p q z l = grind (arith, nat_tests)

above : (p q z : ℕ) → q ≤ z → (nat_le p z && nat_lt z q) ≡ false
above p q z l = grind (arith, nat_tests)

three : (a b c z : ℕ) → (z < a) ⊎ (((a ≤ z) × (z < b)) ⊎ (((b ≤ z) × (z < c)) ⊎ (c ≤ z)))
three a b c z = grind arith

-- the byte at an address after both
point :
    (xs ys : List ℕ) (a z v : ℕ)
    → (if nat_le (a + length xs) z && nat_lt z (a + length xs + length ys) then get_or ys (z - (a + length xs)) 0
    else (if nat_le a z && nat_lt z (a + length xs) then get_or xs (z - a) 0 else v))
    ≡ (if nat_le a z && nat_lt z (a + length (xs ++ ys)) then get_or (xs ++ ys) (z - a) 0 else v)
point xs ys a z v =
    let n : length (xs ++ ys) ≡ length xs + length ys = length-append xs ys in
    elim (three a (a + length xs) (a + length xs + length ys) z) [
      | inl h ↦
          let s : (nat_le (a + length xs) z && nat_lt z (a + length xs + length ys)) ≡ false = below _ _ z (omega arith) in
          let f : (nat_le a z && nat_lt z (a + length xs)) ≡ false = below _ _ z h in
          let w : (nat_le a z && nat_lt z (a + length (xs ++ ys))) ≡ false = below _ _ z h in
          rw (s, f, w) refl
      | inr rest ↦ elim rest [
        | inl h ↦
            let s : (nat_le (a + length xs) z && nat_lt z (a + length xs + length ys)) ≡ false = below _ _ z h.1 in
            let f : (nat_le a z && nat_lt z (a + length xs)) ≡ true = inside _ _ z h.0 h.1 in
            let w : (nat_le a z && nat_lt z (a + length (xs ++ ys))) ≡ true = inside _ _ z h.0 (omega arith) in
            rw (s, f, w) (sym (get_or_append_left xs ys 0 (z - a) (omega arith)))
        | inr rest' ↦ elim rest' [
          | inl h ↦
              let s : (nat_le (a + length xs) z && nat_lt z (a + length xs + length ys)) ≡ true = inside _ _ z h.0 h.1 in
              let w : (nat_le a z && nat_lt z (a + length (xs ++ ys))) ≡ true = inside _ _ z (omega arith) (omega arith) in
              let m : z - (a + length xs) ≡ z - a - length xs = omega arith in
              rw (s, w) (ap (λ k. get_or ys k 0) m ∙ sym (get_or-append_right xs ys (length xs) (z - a) 0 refl (omega arith)))
          | inr h ↦
              let s : (nat_le (a + length xs) z && nat_lt z (a + length xs + length ys)) ≡ false = above _ _ z h in
              let f : (nat_le a z && nat_lt z (a + length xs)) ≡ false = above _ _ z (omega arith) in
              let w : (nat_le a z && nat_lt z (a + length (xs ++ ys))) ≡ false = above _ _ z (omega arith) in
              rw (s, f, w) refl
        ]
      ]
    ]

-- a sound memory, whose regions have room for both
pub twice :
    (m : Contents) (a : ℕ) (xs ys : List ℕ)
    → PartsAreCovered → SameBytesOneList → ByteAfterWrite → WritesSoundly
    → IsSound m → IsTrue (covers m.regions a (length xs + length ys))
    → written (written m a xs) (a + length xs) ys ≡ written m a (xs ++ ys)
twice m a xs ys parts one byte soundly sound cover =
    let first : IsTrue (covers m.regions a (length xs)) = parts m.regions a _ a _ cover (omega arith) (omega arith) in
    let second : IsTrue (covers m.regions (a + length xs) (length ys)) =
    parts m.regions a _ (a + length xs) _ cover (omega arith) (omega arith) in
    let n : length (xs ++ ys) ≡ length xs + length ys = length-append xs ys in
    let both : IsTrue (covers m.regions a (length (xs ++ ys))) = rw n cover in
    let left = soundly (written m a xs) (a + length xs) ys (soundly m a xs sound first) second in
    let right = soundly m a (xs ++ ys) sound both in
    let same : (z : ℕ) → value_at (with_bytes (with_bytes m.bytes a xs) (a + length xs) ys) z
    ≡ value_at (with_bytes m.bytes a (xs ++ ys)) z =
    λ z. byte (with_bytes m.bytes a xs) (a + length xs) ys z
    ∙ (ap (λ v. if nat_le (a + length xs) z && nat_lt z (a + length xs + length ys)
    then get_or ys (z - (a + length xs)) 0 else v) (byte m.bytes a xs z)
    ∙ (point xs ys a z (value_at m.bytes z) ∙ sym (byte m.bytes a (xs ++ ys) z))) in
    ap (λ (bs : ByteList). record m { bytes = bs }) (one m.regions _ _ left.bytes right.bytes same)

-- a part that goes over the seam of two lists
pub seam :
    (xs ys : List ℕ) (at len : ℕ)
    → at ≤ length xs → length xs ≤ at + len
    → take len (drop at (xs ++ ys)) ≡ drop at xs ++ take (at + len - length xs) ys
seam xs ys at len low high =
    let d : length (drop at xs) ≡ length xs - at = length-drop at xs in
    let n : len ≡ length (drop at xs) + (at + len - length xs) = omega arith in
    rw (drop-append-le at xs ys low)
    (ap (λ k. take k (drop at xs ++ ys)) n ∙ take-append-add (drop at xs) ys (at + len - length xs))
