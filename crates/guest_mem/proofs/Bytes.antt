-- The list of bytes that blocks make, and what a write of blocks makes of it.
use Rattle.std.proofs.Common.{◌≡◌, ℕ, ◌+◌, ◌-◌, ◌<◌, ◌≤◌, ◌⊎◌, inl, inr, ◌&&◌, Bool, true, false, cond, nat_lt, nat_le, List, [], ◌∷◌, length, get_or, Option, Some, None, is_some, IsSome, unwrap_or, refl, sym, ap, ◌∙◌, subst, arith}
use Rattle.std.proofs.lemmas.Bool.Decides.{nat_tests}
use Rattle.guest_mem.specs.declared.block.Block.{Block}
use Rattle.guest_mem.specs.declared.region.Region.{Region}
use Rattle.guest_mem.specs.Memory.{ByteList, is_there, value_at, look, with_bytes, covers, CoversBy, WrittenBy, AreStored}
use Rattle.guest_mem.specs.Blocks.{end_of, has_addr, byte_of, byte_in, bytes_of, AreApart, AreWritten, IsKept}
use Rattle.guest_mem.proofs.Lists.{inside, value_at-nonzero_append, value_at-with_bytes, stored_lower, stored_nonzero, stored_with_bytes, same_list}
use Rattle.guest_mem.proofs.Gaps.{inside_on, covers-there}

-- below the first block there is nothing
byte_in-low : (low : ℕ) (bs : List Block) (q : ℕ) → AreApart low bs → q < low → byte_in bs q ≡ None
byte_in-low low [] q h lt = refl
byte_in-low low (b ∷ bs) q h lt =
    let first = h.0 in
    let some = h.1 in
    ap (λ t. cond t (Some (byte_of b q)) (byte_in bs q)) (off b q (omega arith)) ∙ byte_in-low (end_of b + 1) bs q h.3 (omega arith)
  where
    off : (b : Block) (q : ℕ) → q < b.addr → has_addr b q ≡ false
    off b q lt = grind (arith, nat_tests)

-- the list has the bytes of the blocks
pub value_at-bytes_of : (low : ℕ) (bs : List Block) (q : ℕ) → AreApart low bs → value_at (bytes_of bs) q ≡ unwrap_or (byte_in bs q) 0
unfolding bytes_of
value_at-bytes_of low [] q h = refl
value_at-bytes_of low (b ∷ bs) q h =
    let rest = value_at-bytes_of (end_of b + 1) bs q h.3 in
    value_at-nonzero_append b.addr b.bytes.items (bytes_of bs) q (λ t. rest ∙ ap (λ o. unwrap_or o 0) (byte_in-low (end_of b + 1) bs q h.3 (let lt = below b q t in omega arith)))
    ∙ ap (λ v. cond (has_addr b q) (byte_of b q) v) rest
    ∙ choose (has_addr b q) (byte_of b q) (byte_in bs q)
  where
    below : (b : Block) (q : ℕ) → has_addr b q ≡ true → q < end_of b
    below b q t = grind (arith, nat_tests)

    choose : (t : Bool) (v : ℕ) (o : Option ℕ) → cond t v (unwrap_or o 0) ≡ unwrap_or (cond t (Some v) o) 0
    choose true v o = refl
    choose false v o = refl

-- and is kept in the regions, where they have the blocks' addresses
stored_bytes_of : (rs : List Region) (low : ℕ) (bs : List Block) → AreApart low bs → ((q : ℕ) → is_some (byte_in bs q) ≡ true → is_there rs q ≡ true) → AreStored rs low (bytes_of bs)
unfolding bytes_of
stored_bytes_of rs low [] h there = tt
stored_bytes_of rs low (b ∷ bs) h there =
    stored_lower rs b.addr low _
    (stored_nonzero rs b.addr b.bytes.items (bytes_of bs)
    (stored_lower rs (end_of b + 1) (end_of b) (bytes_of bs) (stored_bytes_of rs (end_of b + 1) bs h.3 (λ q some. there q (any (has_addr b q) (byte_of b q) (byte_in bs q) some))) (omega arith))
    (λ k lt. there (b.addr + k) (ap is_some (ap (λ t. cond t (Some (byte_of b (b.addr + k))) (byte_in bs (b.addr + k))) (inside_on b.addr (length b.bytes.items) k lt)))))
    h.0
  where
    any : (t : Bool) (v : ℕ) (o : Option ℕ) → is_some o ≡ true → is_some (cond t (Some v) o) ≡ true
    any true v o e = refl
    any false v o e = e

pub stored_blocks : (rs : List Region) (bs : List Block) → IsKept rs bs → AreStored rs 0 (bytes_of bs)
stored_blocks rs bs h = stored_bytes_of rs 0 bs h.apart (λ q some. sym (h.domain q) ∙ some)

-- what is looked up are the blocks' bytes
pub look-blocks : (rs : List Region) (bs : List Block) → IsKept rs bs → look rs (bytes_of bs) ≡ byte_in bs
unfolding look
look-blocks rs bs h = λ i x. at x i
  where
    some_or_none : (o : Option ℕ) → cond (is_some o) (Some (unwrap_or o 0)) None ≡ o
    some_or_none None = refl
    some_or_none (Some v) = refl

    at : (x : ℕ) → cond (is_there rs x) (Some (value_at (bytes_of bs) x)) None ≡ byte_in bs x
    at x =
        ap (λ t. cond t (Some (value_at (bytes_of bs) x)) None) (sym (h.domain x))
        ∙ ap (λ v. cond (is_some (byte_in bs x)) (Some v) None) (value_at-bytes_of 0 bs x h.apart)
        ∙ some_or_none (byte_in bs x)

-- the blocks keep their places
pub written_apart : (low : ℕ) (old new : List Block) (a : ℕ) (bytes : List ℕ) → AreApart low old → AreWritten old new a bytes → AreApart low new
written_apart low [] [] a bytes h w = tt
written_apart low [] (c ∷ cs) a bytes h w = absurd w
written_apart low (b ∷ bs) [] a bytes h w = absurd w
written_apart low (b ∷ bs) (c ∷ cs) a bytes h w =
    let addr = w.0.addr in
    let len = w.0.len in
    let low_first = h.0 in
    let some = h.1 in
    let fits = h.2 in
    let same : end_of b ≡ end_of c = omega arith in
    (omega arith, omega arith, omega arith, written_apart (end_of c + 1) bs cs a bytes (subst (λ n. AreApart (n + 1) bs) same h.3) w.1)

-- the byte at an address after a write
written_byte : (old new : List Block) (a : ℕ) (bytes : List ℕ) (x : ℕ) → AreWritten old new a bytes
    → byte_in new x ≡ cond (is_some (byte_in old x)) (cond (nat_le a x && nat_lt x (a + length bytes)) (Some (get_or bytes (x - a) 0)) (byte_in old x)) None
written_byte [] [] a bytes x w = refl
written_byte [] (c ∷ cs) a bytes x w = absurd w
written_byte (b ∷ bs) [] a bytes x w = absurd w
written_byte (b ∷ bs) (c ∷ cs) a bytes x w =
    let addr = w.0.addr in
    let len = w.0.len in
    let same : has_addr c x ≡ has_addr b x = λ i. nat_le (addr i) x && nat_lt x (addr i + len i) in
    elim (tests b x) [
      | inl h ↦
          ap (λ t. cond t (Some (byte_of c x)) (byte_in cs x)) (same ∙ h.0)
          ∙ ap (λ n. Some n) (w.0.byte x h.1 h.2)
          ∙ inside (nat_le a x && nat_lt x (a + length bytes)) (get_or bytes (x - a) 0) (byte_of b x) (byte_in bs x) (has_addr b x) h.0
      | inr h ↦
          ap (λ t. cond t (Some (byte_of c x)) (byte_in cs x)) (same ∙ h)
          ∙ written_byte bs cs a bytes x w.1
          ∙ ap (λ o. cond (is_some o) (cond (nat_le a x && nat_lt x (a + length bytes)) (Some (get_or bytes (x - a) 0)) o) None) (sym (ap (λ t. cond t (Some (byte_of b x)) (byte_in bs x)) h))
    ]
  where
    tests : (b : Block) (x : ℕ) → ((has_addr b x ≡ true) × (b.addr ≤ x) × (x < end_of b)) ⊎ (has_addr b x ≡ false)
    tests b x = grind (arith, nat_tests)

    inside : (t : Bool) (n o : ℕ) (r : Option ℕ) (h : Bool) → h ≡ true → Some (cond t n o) ≡ cond (is_some (cond h (Some o) r)) (cond t (Some n) (cond h (Some o) r)) None
    inside true n o r true e = refl
    inside false n o r true e = refl
    inside t n o r false e = absurd (cc)

-- a write of each block is a write of the bytes
pub written_bytes : (old new : List Block) (a : ℕ) (bytes : List ℕ) → CoversBy (byte_in old) a (length bytes) → AreWritten old new a bytes → WrittenBy (byte_in old) (byte_in new) a bytes
written_bytes old new a bytes covered w = record {
  written = λ k l.
      let on : (nat_le a (a + k) && nat_lt (a + k) (a + length bytes)) ≡ true = grind (arith, nat_tests) in
      let e : a + k - a ≡ k = omega arith in
      written_byte old new a bytes (a + k) w
      ∙ there (is_some (byte_in old (a + k))) _ (covered k l)
      ∙ ap (λ t. cond t (Some (get_or bytes (a + k - a) 0)) (byte_in old (a + k))) on
      ∙ ap (λ n. Some (get_or bytes n 0)) e;
  before = λ x lt.
      let off : (nat_le a x && nat_lt x (a + length bytes)) ≡ false = grind (arith, nat_tests) in
      written_byte old new a bytes x w ∙ ap (λ t. cond (is_some (byte_in old x)) (cond t (Some (get_or bytes (x - a) 0)) (byte_in old x)) None) off ∙ kept (byte_in old x);
  after = λ x le.
      let off : (nat_le a x && nat_lt x (a + length bytes)) ≡ false = grind (arith, nat_tests) in
      written_byte old new a bytes x w ∙ ap (λ t. cond (is_some (byte_in old x)) (cond t (Some (get_or bytes (x - a) 0)) (byte_in old x)) None) off ∙ kept (byte_in old x);
  same_domain = λ x. ap is_some (written_byte old new a bytes x w) ∙ some (byte_in old x) (nat_le a x && nat_lt x (a + length bytes)) (get_or bytes (x - a) 0);
}
  where
    there : (b : Bool) (o : Option ℕ) → b ≡ true → cond b o None ≡ o
    there true o e = refl
    there false o e = absurd (cc)

    kept : (o : Option ℕ) → cond (is_some o) o None ≡ o
    kept None = refl
    kept (Some v) = refl

    some : (o : Option ℕ) (t : Bool) (n : ℕ) → is_some (cond (is_some o) (cond t (Some n) o) None) ≡ is_some o
    some None t n = refl
    some (Some v) true n = refl
    some (Some v) false n = refl

-- after a write the blocks are kept in the same regions
pub kept_written : (rs : List Region) (old new : List Block) (a : ℕ) (bytes : List ℕ) → IsKept rs old → AreWritten old new a bytes → CoversBy (byte_in old) a (length bytes) → IsKept rs new
kept_written rs old new a bytes h w covered = record {
  regions = h.regions;
  apart = written_apart 0 old new a bytes h.apart w;
  domain = λ x. (written_bytes old new a bytes covered w).same_domain x ∙ h.domain x;
}

-- the same where the blocks were borrowed
pub kept_after : (rs : List Region) (old now new : List Block) (a : ℕ) (bytes : List ℕ) → now ≡ old → IsKept rs old → AreWritten now new a bytes → CoversBy (byte_in now) a (length bytes) → IsKept rs new
kept_after rs old now new a bytes is h w covered = kept_written rs now new a bytes (subst (λ (bs : List Block). IsKept rs bs) (sym is) h) w covered

-- and their list is that of the write
pub bytes_of-written : (rs : List Region) (old new : List Block) (a : ℕ) (bytes : List ℕ) → IsKept rs old → AreWritten old new a bytes → CoversBy (byte_in old) a (length bytes)
    → bytes_of new ≡ with_bytes (bytes_of old) a bytes
bytes_of-written rs old new a bytes h w covered =
    let kept = kept_written rs old new a bytes h w covered in
    same_list rs 0 (bytes_of new) (with_bytes (bytes_of old) a bytes) (stored_blocks rs new kept)
    (stored_with_bytes rs (bytes_of old) a bytes (stored_blocks rs old h) (λ k lt. sym (h.domain (a + k)) ∙ covered k lt))
    (λ q. value_at-bytes_of 0 new q kept.apart
    ∙ ap (λ o. unwrap_or o 0) (written_byte old new a bytes q w)
    ∙ by_cases (inside a (length bytes) q) (get_or bytes (q - a) 0) (byte_in old q) (λ t. some_at q t)
    ∙ ap (λ v. cond (inside a (length bytes) q) (get_or bytes (q - a) 0) v) (sym (value_at-bytes_of 0 old q h.apart))
    ∙ sym (value_at-with_bytes (bytes_of old) a bytes q))
  where
    by_cases : (t : Bool) (v : ℕ) (o : Option ℕ) → (t ≡ true → is_some o ≡ true) → unwrap_or (cond (is_some o) (cond t (Some v) o) None) 0 ≡ cond t v (unwrap_or o 0)
    by_cases true v None e = let contra = e refl in absurd (cc)
    by_cases true v (Some x) e = refl
    by_cases false v None e = refl
    by_cases false v (Some x) e = refl

    place : (a n q : ℕ) → inside a n q ≡ true → (q - a < n) × (a + (q - a) ≡ q)
    place a n q t = let range : (a ≤ q) × (q < a + n) = grind (arith, nat_tests) in (omega (arith, range.0, range.1), omega (arith, range.0))

    some_at : (q : ℕ) → inside a (length bytes) q ≡ true → is_some (byte_in old q) ≡ true
    some_at q t = let at = place a (length bytes) q t in subst (λ x. IsSome (byte_in old x)) at.1 (covered (q - a) at.0)

-- a write into a list is a write of the bytes
pub writes_bytes : (rs : List Region) (bs : ByteList) (a : ℕ) (xs : List ℕ) → covers rs a (length xs) ≡ true → WrittenBy (look rs bs) (look rs (with_bytes bs a xs)) a xs
unfolding look
writes_bytes rs bs a xs h = record {
  written = λ k lt.
      ap (λ t. cond t (Some (value_at (with_bytes bs a xs) (a + k))) None) (covers-there rs a (length xs) h k lt)
      ∙ ap (λ v. Some v) (value_at-with_bytes bs a xs (a + k) ∙ ap (λ t. cond t (get_or xs (a + k - a) 0) (value_at bs (a + k))) (inside_on a (length xs) k lt) ∙ ap (λ n. get_or xs n 0) (minus a k));
  before = λ x lt. same x (off_low a (length xs) x lt);
  after = λ x le. same x (off_high a (length xs) x le);
  same_domain = λ x. any (is_there rs x) (value_at (with_bytes bs a xs) x) (value_at bs x);
}
  where
    minus : (a k : ℕ) → a + k - a ≡ k
    minus a k = omega arith

    off_low : (a n x : ℕ) → x < a → inside a n x ≡ false
    off_low a n x lt = grind (arith, nat_tests)

    off_high : (a n x : ℕ) → a + n ≤ x → inside a n x ≡ false
    off_high a n x le = grind (arith, nat_tests)

    same : (x : ℕ) → inside a (length xs) x ≡ false → cond (is_there rs x) (Some (value_at (with_bytes bs a xs) x)) None ≡ cond (is_there rs x) (Some (value_at bs x)) None
    same x off = ap (λ v. cond (is_there rs x) (Some v) None) (value_at-with_bytes bs a xs x ∙ ap (λ t. cond t (get_or xs (x - a) 0) (value_at bs x)) off)

    any : (t : Bool) (v w : ℕ) → is_some (cond t (Some v) None) ≡ is_some (cond t (Some w) None)
    any true v w = refl
    any false v w = refl
