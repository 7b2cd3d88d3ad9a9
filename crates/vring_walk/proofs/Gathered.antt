-- The bytes of ranges and segments, a part at a time.
use Rattle.std.proofs.Common.{◌≡◌, ℕ, zero, suc, ◌+◌, ◌-◌, ◌≤◌, min, cond, eqb, Option, List, [], ◌∷◌, ◌++◌, length, take, drop, inl, inr, refl, sym, ap, ◌∙◌, arith, drop_at, append_assoc}
use Rattle.std.specs.Prelude.{unwrap_or}
use Rattle.std.proofs.lemmas.Bool.{cases_lt}
use Rattle.std.proofs.lemmas.List.{length-append, drop-drop}
use Rattle.guest_mem.specs.Memory.{ByteList, Contents, byte_at, bytes_at, bytes_from, filled}
use Rattle.guest_mem.specs.Regions.{IsSound}
use Rattle.guest_mem.specs.Laws.{BytesAreLookedUp}
use Rattle.vring_split.specs.declared.segment.Segment.{Segment}
use Rattle.vring_walk.specs.Spread.{bytes_in, first_gathered}

-- Ranges.

-- so many are read as were asked for
length-filled : (n : ℕ) (bs : ByteList) (a : ℕ) → length (filled bs a n) ≡ n
length-filled zero bs a = refl
length-filled (suc n) [] a = let rest = length-filled n [] (a + 1) in omega arith
length-filled (suc n) (e ∷ es) a = let rest = length-filled n (cond (eqb e.0 a) es (e ∷ es)) (a + 1) in omega arith

pub length-bytes_from : (bs : ByteList) (a n : ℕ) → length (bytes_from bs a n) ≡ n
unfolding bytes_from
length-bytes_from bs a n = length-filled n _ a

pub none_from : (bs : ByteList) (a : ℕ) → bytes_from bs a 0 ≡ []
unfolding bytes_from
none_from bs a = refl

bytes_at-add :
    (look : ℕ → Option ℕ) (x y a : ℕ) → bytes_at look a (x + y) ≡ bytes_at look a x ++ bytes_at look (a + x) y
unfolding bytes_at
bytes_at-add look zero y a =
    let e : 0 + y ≡ y = omega arith in
    let d : a + 0 ≡ a = omega arith in
    rw (e, d) refl
bytes_at-add look (suc x) y a =
    let e : suc x + y ≡ suc (x + y) = omega arith in
    let d : a + suc x ≡ (a + 1) + x = omega arith in
    rw (e, d) (ap (λ l. unwrap_or (look a) 0 ∷ l) (bytes_at-add look x y (a + 1)))

-- a range is its front and what is behind that
abbrev pub AreCut : ByteList → Type 0
AreCut bs = (a x y : ℕ) → bytes_from bs a (x + y) ≡ bytes_from bs a x ++ bytes_from bs (a + x) y

pub are_cut : BytesAreLookedUp → (m : Contents) → IsSound m → AreCut m.bytes
are_cut looked m sound a x y =
    looked m a (x + y) sound ∙ (bytes_at-add (byte_at m) x y a
    ∙ (ap (λ l. l ++ bytes_at (byte_at m) (a + x) y) (sym (looked m a x sound))
    ∙ ap (λ l. bytes_from m.bytes a x ++ l) (sym (looked m (a + x) y sound))))

-- Segments.

pub length-first :
    (bs : ByteList) (segments : List Segment) (n : ℕ)
    → length (first_gathered n bs segments) ≡ min (bytes_in segments) n
length-first bs [] n = omega arith
length-first bs (s ∷ ss) n =
    let rest = length-first bs ss (n - s.len) in
    omega (
      arith,
      length-append (bytes_from bs s.addr (min s.len n)) (first_gathered (n - s.len) bs ss),
      length-bytes_from bs s.addr (min s.len n),
      rest,
    )

-- one segment, of which so many are skipped and so many read, where r are read in all
pub behind_step :
    (bs : ByteList) (s : Segment) (ss : List Segment) (left r : ℕ) → AreCut bs
    → bytes_from bs (s.addr + min left s.len) (min (s.len - min left s.len) r)
    ++ drop (left - min left s.len)
    (first_gathered ((left - min left s.len) + (r - min (s.len - min left s.len) r)) bs ss)
    ≡ drop left (first_gathered (left + r) bs (s ∷ ss))
behind_step bs s ss left r cut = elim (cases_lt left s.len) [
  | inl lt ↦
      let k : min left s.len ≡ left = omega arith in
      let n : min s.len (left + r) ≡ left + min (s.len - left) r = omega arith in
      let d : left - left ≡ 0 = omega arith in
      let f : 0 + (r - min (s.len - left) r) ≡ (left + r) - s.len = omega arith in
      let rest = first_gathered ((left + r) - s.len) bs ss in
      let long = length-bytes_from bs s.addr left in
      let A = bytes_from bs s.addr left in
      let B = bytes_from bs (s.addr + left) (min (s.len - left) r) in
      rw (k, n, d, f, cut s.addr left (min (s.len - left) r))
      (sym (ap (λ l. drop left l) (append_assoc A B rest) ∙ drop_at A (B ++ rest) left long))
  | inr ge ↦
      let k : min left s.len ≡ s.len = omega arith in
      let n : min s.len (left + r) ≡ s.len = omega arith in
      let z : min (s.len - s.len) r ≡ 0 = omega arith in
      let f : (left - s.len) + (r - 0) ≡ (left + r) - s.len = omega arith in
      let rest = first_gathered ((left + r) - s.len) bs ss in
      let A = bytes_from bs s.addr s.len in
      let back : drop left (A ++ rest) ≡ drop (left - s.len) rest =
      ap (λ j. drop j (A ++ rest)) (omega (arith, ge)) ∙ (sym (drop-drop (left - s.len) s.len (A ++ rest))
      ∙ ap (λ l. drop (left - s.len) l) (drop_at A rest s.len (length-bytes_from bs s.addr s.len))) in
      rw (k, n, z, f, none_from bs (s.addr + s.len)) (sym back)
]

-- one iteration: the front of the room grows by what was read, and what is still to come is the same
pub behind_bytes :
    (bs : ByteList) (room now rest : List ℕ) (segments : List Segment) (s : Segment) (i left at k n : ℕ)
    → AreCut bs → drop i segments ≡ s ∷ drop (i + 1) segments → k ≡ min left s.len
    → n ≡ min (s.len - k) (length room - at) → length now ≡ length room
    → take (at + n) now ≡ take at room ++ bytes_from bs (s.addr + k) n
    → take at room ++ drop left (first_gathered (left + (length room - at)) bs (drop i segments)) ≡ rest
    → take (at + n) now
    ++ drop (left - k) (first_gathered ((left - k) + (length now - (at + n))) bs (drop (i + 1) segments)) ≡ rest
behind_bytes bs room now rest segments s i left at k n cut here skips reads same read was =
    let ss = drop (i + 1) segments in
    let r : length now - (at + n) ≡ (length room - at) - n = omega arith in
    let front = take at room in
    let step : bytes_from bs (s.addr + k) n ++ drop (left - k) (first_gathered ((left - k) + ((length room - at) - n)) bs ss)
    ≡ drop left (first_gathered (left + (length room - at)) bs (s ∷ ss)) =
    rw (reads, skips) (behind_step bs s ss left (length room - at) cut) in
    rw (read, r)
    (append_assoc front (bytes_from bs (s.addr + k) n)
    (drop (left - k) (first_gathered ((left - k) + ((length room - at) - n)) bs ss))
    ∙ (ap (λ l. front ++ l) step
    ∙ (ap (λ l. front ++ drop left (first_gathered (left + (length room - at)) bs l)) (sym here) ∙ was)))

pub behind_enough :
    (segments : List Segment) (s : Segment) (i left at k n long : ℕ)
    → drop i segments ≡ s ∷ drop (i + 1) segments → k ≡ min left s.len → n ≡ min (s.len - k) (long - at)
    → left + (long - at) ≤ bytes_in (drop i segments)
    → (left - k) + (long - (at + n)) ≤ bytes_in (drop (i + 1) segments)
behind_enough segments s i left at k n long here skips reads was =
    let sum : bytes_in (drop i segments) ≡ s.len + bytes_in (drop (i + 1) segments) = ap bytes_in here in
    omega (arith, sum, skips, reads, was)
