-- Lists of bytes: what stands at an address, what a write leaves, and that equal bytes are one list.
use Rattle.std.proofs.Common.{◌≡◌, ◌≢◌, ℕ, zero, suc, ◌+◌, ◌-◌, ◌<◌, ◌≤◌, ◌⊎◌, inl, inr, ◌&&◌, Bool, true, false, cond, max, nat_lt, nat_le, eqb, List, [], ◌∷◌, ◌++◌, length, filter, get_or, Some, None, IsTrue, unwrap_or, refl, sym, ap, ◌∙◌, subst, arith, append_assoc}
use Rattle.std.proofs.lemmas.Bool.Decides.{nat_tests}
use Rattle.std.proofs.lemmas.List.{append-nil}
use Rattle.guest_mem.specs.declared.region.Region.{Region}
use Rattle.guest_mem.specs.Memory.{ByteList, is_there, value_at, look, bytes_at, filled, bytes_from, nonzero_from, with_bytes, AreStored}

-- an address lies in a range of n addresses from a on
abbrev pub inside : ℕ → ℕ → ℕ → Bool
inside a n x = nat_le a x && nat_lt x (a + n)

-- the entries whose address passes a test, and others of which none has an address that passes it
value_at-filter_append : (p : ℕ → Bool) (bs ys : ByteList) (q : ℕ) → (p q ≡ true → value_at ys q ≡ 0)
    → value_at (filter (λ (e : ℕ × ℕ). p e.0) bs ++ ys) q ≡ cond (p q) (value_at bs q) (value_at ys q)
value_at-filter_append p [] ys q h = none (p q) (value_at ys q) h
  where
    none : (b : Bool) (v : ℕ) → (b ≡ true → v ≡ 0) → v ≡ cond b 0 v
    none true v h = h refl
    none false v h = refl
value_at-filter_append p (e ∷ es) ys q h =
    pushed (p e.0) e (filter (λ (e : ℕ × ℕ). p e.0) es) ys q
    ∙ chosen (p e.0) (p q) (eqb e.0 q) e.1 (value_at (filter (λ (e : ℕ × ℕ). p e.0) es ++ ys) q) (value_at es q) (value_at ys q) (λ t. ap p (same e.0 q t)) (value_at-filter_append p es ys q h)
  where
    pushed : (b : Bool) (e : ℕ × ℕ) (fs ys : ByteList) (q : ℕ)
        → value_at (cond b (e ∷ fs) fs ++ ys) q ≡ cond b (cond (eqb e.0 q) e.1 (value_at (fs ++ ys) q)) (value_at (fs ++ ys) q)
    pushed true e fs ys q = refl
    pushed false e fs ys q = refl

    chosen : (b c t : Bool) (v rest x y : ℕ) → (t ≡ true → b ≡ c) → rest ≡ cond c x y → cond b (cond t v rest) rest ≡ cond c (cond t v x) y
    chosen true true true v rest x y h e = refl
    chosen true false true v rest x y h e = let f = h refl in absurd (cc)
    chosen false true true v rest x y h e = let f = h refl in absurd (cc)
    chosen false false true v rest x y h e = e
    chosen true c false v rest x y h e = e ∙ step c x y
      where
        step : (c : Bool) (x y : ℕ) → cond c x y ≡ cond c x y
        step c x y = refl
    chosen false c false v rest x y h e = e

    same : (a b : ℕ) → eqb a b ≡ true → a ≡ b
    same a b t = grind (arith, nat_tests)

pub value_at-filter : (p : ℕ → Bool) (bs : ByteList) (q : ℕ) → value_at (filter (λ (e : ℕ × ℕ). p e.0) bs) q ≡ cond (p q) (value_at bs q) 0
value_at-filter p bs q =
    ap (λ (es : ByteList). value_at es q) (sym (append-nil (filter (λ (e : ℕ × ℕ). p e.0) bs)))
    ∙ value_at-filter_append p bs [] q (λ t. refl)

-- bytes that stand from a on, and others of which none stands there
pub value_at-nonzero_append : (a : ℕ) (xs : List ℕ) (ys : ByteList) (q : ℕ) → (inside a (length xs) q ≡ true → value_at ys q ≡ 0)
    → value_at (nonzero_from a xs ++ ys) q ≡ cond (inside a (length xs) q) (get_or xs (q - a) 0) (value_at ys q)
value_at-nonzero_append a [] ys q h = ap (λ t. cond t 0 (value_at ys q)) (sym (nowhere a q))
  where
    nowhere : (a q : ℕ) → inside a 0 q ≡ false
    nowhere a q = grind (arith, nat_tests)
value_at-nonzero_append a (x ∷ xs) ys q h =
    ap (λ (es : ByteList). value_at es q) (append_assoc (cond (eqb x 0) [] ((a, x) ∷ [])) (nonzero_from (a + 1) xs) ys)
    ∙ first (eqb x 0) a x q (nonzero_from (a + 1) xs ++ ys)
    ∙ elim (cases a q (length xs)) [
      | inl e ↦
          let here : eqb a q ≡ true = grind (arith, nat_tests) in
          let off : inside (a + 1) (length xs) q ≡ false = grind (arith, nat_tests) in
          let on : inside a (length (x ∷ xs)) q ≡ true = e.1 in
          let rest : value_at (nonzero_from (a + 1) xs ++ ys) q ≡ 0 =
          value_at-nonzero_append (a + 1) xs ys q (λ t. absurd (cc)) ∙ ap (λ t. cond t (get_or xs (q - (a + 1)) 0) (value_at ys q)) off ∙ h on in
          ap (λ t. cond t (cond (eqb x 0) (value_at (nonzero_from (a + 1) xs ++ ys) q) x) (value_at (nonzero_from (a + 1) xs ++ ys) q)) here
          ∙ zero_or x (value_at (nonzero_from (a + 1) xs ++ ys) q) rest
          ∙ ap (λ n. get_or (x ∷ xs) n 0) e.2
          ∙ ap (λ t. cond t (get_or (x ∷ xs) (q - a) 0) (value_at ys q)) (sym on)
      | inr e ↦
          let off : eqb a q ≡ false = grind (arith, nat_tests) in
          ap (λ t. cond t (cond (eqb x 0) (value_at (nonzero_from (a + 1) xs ++ ys) q) x) (value_at (nonzero_from (a + 1) xs ++ ys) q)) off
          ∙ value_at-nonzero_append (a + 1) xs ys q (λ t. h (sym e.1 ∙ t))
          ∙ choose (inside (a + 1) (length xs) q) (inside a (length (x ∷ xs)) q) (get_or xs (q - (a + 1)) 0) (get_or (x ∷ xs) (q - a) 0) (value_at ys q) e.1 (λ t. step x xs q a (e.2 t))
    ]
  where
    first : (b : Bool) (a x q : ℕ) (zs : ByteList) → value_at (cond b [] ((a, x) ∷ []) ++ zs) q ≡ cond (eqb a q) (cond b (value_at zs q) x) (value_at zs q)
    first true a x q zs = twice (eqb a q) (value_at zs q)
      where
        twice : (t : Bool) (v : ℕ) → v ≡ cond t v v
        twice true v = refl
        twice false v = refl
    first false a x q zs = refl

    zero_or : (x v : ℕ) → v ≡ 0 → cond (eqb x 0) v x ≡ x
    zero_or x v e = grind (arith, nat_tests)

    cases : (a q n : ℕ) → ((a ≡ q) × (inside a (suc n) q ≡ true) × (0 ≡ q - a)) ⊎ ((a ≢ q) × (inside (a + 1) n q ≡ inside a (suc n) q) × (inside a (suc n) q ≡ true → a < q))
    cases a q n = grind (arith, nat_tests)

    choose : (b c : Bool) (x y o : ℕ) → b ≡ c → (c ≡ true → x ≡ y) → cond b x o ≡ cond c y o
    choose b true x y o e h = ap (λ t. cond t x o) e ∙ h refl
    choose b false x y o e h = ap (λ t. cond t x o) e

    step : (x : ℕ) (xs : List ℕ) (q a : ℕ) → a < q → get_or xs (q - (a + 1)) 0 ≡ get_or (x ∷ xs) (q - a) 0
    step x xs q a lt = let e : suc (q - (a + 1)) ≡ q - a = omega arith in ap (λ n. get_or (x ∷ xs) n 0) e

-- the byte at an address after a write
pub value_at-with_bytes : (bs : ByteList) (a : ℕ) (xs : List ℕ) (q : ℕ) → value_at (with_bytes bs a xs) q ≡ cond (inside a (length xs) q) (get_or xs (q - a) 0) (value_at bs q)
unfolding with_bytes
value_at-with_bytes bs a xs q =
    value_at-filter_append (λ n. nat_lt n a) bs (nonzero_from a xs ++ above) q (λ t. behind ∙ low (length xs) t)
    ∙ ap (λ v. cond (nat_lt q a) (value_at bs q) v) behind
    ∙ three (nat_lt q a) (inside a (length xs) q) (nat_le (a + length xs) q) (value_at bs q) (get_or xs (q - a) 0) (tests a (length xs) q)
  where
    above : ByteList
    above = filter (λ (e : ℕ × ℕ). nat_le (a + length xs) e.0) bs

    off_above : (n : ℕ) → inside a n q ≡ true → nat_le (a + n) q ≡ false
    off_above n t = grind (arith, nat_tests)

    behind : value_at (nonzero_from a xs ++ above) q ≡ cond (inside a (length xs) q) (get_or xs (q - a) 0) (cond (nat_le (a + length xs) q) (value_at bs q) 0)
    behind =
        value_at-nonzero_append a xs above q (λ t. value_at-filter (λ n. nat_le (a + length xs) n) bs q ∙ ap (λ b. cond b (value_at bs q) 0) (off_above (length xs) t))
        ∙ ap (λ v. cond (inside a (length xs) q) (get_or xs (q - a) 0) v) (value_at-filter (λ n. nat_le (a + length xs) n) bs q)

    low : (n : ℕ) → nat_lt q a ≡ true → cond (inside a n q) (get_or xs (q - a) 0) (cond (nat_le (a + n) q) (value_at bs q) 0) ≡ 0
    low n t =
        let out : inside a n q ≡ false = grind (arith, nat_tests) in
        let under : nat_le (a + n) q ≡ false = grind (arith, nat_tests) in
        (λ i. cond (out i) (get_or xs (q - a) 0) (cond (under i) (value_at bs q) 0))

    tests : (a n q : ℕ) → ((nat_lt q a ≡ true) × (inside a n q ≡ false)) ⊎ (((nat_lt q a ≡ false) × (inside a n q ≡ true)) ⊎ ((nat_lt q a ≡ false) × (inside a n q ≡ false) × (nat_le (a + n) q ≡ true)))
    tests a n q = grind (arith, nat_tests)

    three : (b c d : Bool) (v x : ℕ) → ((b ≡ true) × (c ≡ false)) ⊎ (((b ≡ false) × (c ≡ true)) ⊎ ((b ≡ false) × (c ≡ false) × (d ≡ true))) → cond b v (cond c x (cond d v 0)) ≡ cond c x v
    three b c d v x (inl h) = (λ i. cond (h.0 i) v (cond (h.1 i) x (cond d v 0))) ∙ sym (ap (λ t. cond t x v) h.1)
    three b c d v x (inr (inl h)) = (λ i. cond (h.0 i) v (cond (h.1 i) x (cond d v 0))) ∙ sym (ap (λ t. cond t x v) h.1)
    three b c d v x (inr (inr h)) = (λ i. cond (h.0 i) v (cond (h.1 i) x (cond (h.2 i) v 0))) ∙ sym (ap (λ t. cond t x v) h.1)

-- Lists that are kept in regions.

pub stored_lower : (rs : List Region) (low less : ℕ) (bs : ByteList) → AreStored rs low bs → less ≤ low → AreStored rs less bs
stored_lower rs low less [] h le = tt
stored_lower rs low less (e ∷ es) h le = let first = h.0 in (omega arith, h.1, h.2, h.3)

-- below the first address there is nothing
pub value_at-low : (rs : List Region) (low : ℕ) (bs : ByteList) (q : ℕ) → AreStored rs low bs → q < low → value_at bs q ≡ 0
value_at-low rs low [] q h lt = refl
value_at-low rs low (e ∷ es) q h lt =
    let first = h.0 in
    let off : eqb e.0 q ≡ false = apart e.0 q (omega arith) in
    ap (λ t. cond t e.1 (value_at es q)) off ∙ value_at-low rs (e.0 + 1) es q h.3 (omega arith)
  where
    apart : (a q : ℕ) → q < a → eqb a q ≡ false
    apart a q lt = grind (arith, nat_tests)

-- what stands below an address, and others from there on
stored_below : (rs : List Region) (bs ys : ByteList) (low mid a : ℕ) → AreStored rs low bs → AreStored rs mid ys → low ≤ mid → a ≤ mid
    → AreStored rs low (filter (λ (e : ℕ × ℕ). nat_lt e.0 a) bs ++ ys)
stored_below rs [] ys low mid a h k le am = stored_lower rs mid low ys k le
stored_below rs (e ∷ es) ys low mid a h k le am =
    by_test (nat_lt e.0 a) refl (λ lt. stored_below rs es ys (e.0 + 1) mid a h.3 k lt am) (stored_below rs es ys low mid a (let first = h.0 in stored_lower rs (e.0 + 1) low es h.3 (omega arith)) k le am)
  where
    under : (x a : ℕ) → nat_lt x a ≡ true → x < a
    under x a t = grind (arith, nat_tests)

    by_test : (b : Bool) → nat_lt e.0 a ≡ b
        → (e.0 + 1 ≤ mid → AreStored rs (e.0 + 1) (filter (λ (e : ℕ × ℕ). nat_lt e.0 a) es ++ ys))
        → AreStored rs low (filter (λ (e : ℕ × ℕ). nat_lt e.0 a) es ++ ys)
        → AreStored rs low (cond b (e ∷ filter (λ (e : ℕ × ℕ). nat_lt e.0 a) es) (filter (λ (e : ℕ × ℕ). nat_lt e.0 a) es) ++ ys)
    by_test true t on off = let lt = under e.0 a t in (h.0, h.1, h.2, on (omega arith))
    by_test false t on off = off

-- what stands from an address on
stored_above : (rs : List Region) (bs : ByteList) (low mid : ℕ) → AreStored rs low bs → AreStored rs (max low mid) (filter (λ (e : ℕ × ℕ). nat_le mid e.0) bs)
stored_above rs [] low mid h = tt
stored_above rs (e ∷ es) low mid h = by_test (nat_le mid e.0) refl (stored_above rs es (e.0 + 1) mid h.3)
  where
    over : (x a : ℕ) → nat_le a x ≡ true → a ≤ x
    over x a t = grind (arith, nat_tests)

    by_test : (b : Bool) → nat_le mid e.0 ≡ b → AreStored rs (max (e.0 + 1) mid) (filter (λ (e : ℕ × ℕ). nat_le mid e.0) es) → AreStored rs (max low mid) (cond b (e ∷ filter (λ (e : ℕ × ℕ). nat_le mid e.0) es) (filter (λ (e : ℕ × ℕ). nat_le mid e.0) es))
    by_test true t rest = let first = h.0 in let le = over e.0 mid t in (omega arith, h.1, h.2, stored_lower rs (max (e.0 + 1) mid) (e.0 + 1) _ rest (omega arith))
    by_test false t rest = let first = h.0 in stored_lower rs (max (e.0 + 1) mid) (max low mid) _ rest (omega arith)

-- bytes at addresses of the regions, and others behind them
pub stored_nonzero : (rs : List Region) (a : ℕ) (xs : List ℕ) (ys : ByteList) → AreStored rs (a + length xs) ys → ((k : ℕ) → k < length xs → IsTrue (is_there rs (a + k))) → AreStored rs a (nonzero_from a xs ++ ys)
stored_nonzero rs a [] ys h there = stored_lower rs (a + 0) a ys h (omega arith)
stored_nonzero rs a (x ∷ xs) ys h there =
    subst (λ (es : ByteList). AreStored rs a es) (sym (append_assoc (cond (eqb x 0) [] ((a, x) ∷ [])) (nonzero_from (a + 1) xs) ys))
    (by_test (eqb x 0) refl (stored_nonzero rs (a + 1) xs ys (stored_lower rs (a + length (x ∷ xs)) (a + 1 + length xs) ys h (omega arith)) (λ k lt. subst (λ n. IsTrue (is_there rs n)) (shifted a k) (there (suc k) (omega arith)))))
  where
    shifted : (a k : ℕ) → a + suc k ≡ a + 1 + k
    shifted a k = omega arith

    here : IsTrue (is_there rs a)
    here = let e : a + 0 ≡ a = omega arith in subst (λ n. IsTrue (is_there rs n)) e (there 0 (omega arith))

    some : (x : ℕ) → eqb x 0 ≡ false → 0 < x
    some x t = grind (arith, nat_tests)

    by_test : (b : Bool) → eqb x 0 ≡ b → AreStored rs (a + 1) (nonzero_from (a + 1) xs ++ ys) → AreStored rs a (cond b [] ((a, x) ∷ []) ++ (nonzero_from (a + 1) xs ++ ys))
    by_test true t rest = stored_lower rs (a + 1) a _ rest (omega arith)
    by_test false t rest = (omega arith, some x t, here, rest)

-- a write leaves a list that is kept
pub stored_with_bytes : (rs : List Region) (bs : ByteList) (a : ℕ) (xs : List ℕ) → AreStored rs 0 bs → ((k : ℕ) → k < length xs → IsTrue (is_there rs (a + k))) → AreStored rs 0 (with_bytes bs a xs)
unfolding with_bytes
stored_with_bytes rs bs a xs h there =
    stored_below rs bs (nonzero_from a xs ++ filter (λ (e : ℕ × ℕ). nat_le (a + length xs) e.0) bs) 0 a a h
    (stored_nonzero rs a xs _ (stored_lower rs (max 0 (a + length xs)) (a + length xs) _ (stored_above rs bs 0 (a + length xs) h) (omega arith)) there) (omega arith) (omega arith)

-- equal bytes are one list
pub same_list : (rs : List Region) (low : ℕ) (bs cs : ByteList) → AreStored rs low bs → AreStored rs low cs → ((q : ℕ) → value_at bs q ≡ value_at cs q) → bs ≡ cs
same_list rs low [] [] h k e = refl
same_list rs low [] (c ∷ cs) h k e =
    let here : value_at (c ∷ cs) c.0 ≡ c.1 = ap (λ t. cond t c.1 (value_at cs c.0)) (itself c.0) in
    let some = k.1 in
    let none = e c.0 in
    absurd (omega arith)
  where
    itself : (a : ℕ) → eqb a a ≡ true
    itself a = grind (arith, nat_tests)
same_list rs low (b ∷ bs) [] h k e =
    let here : value_at (b ∷ bs) b.0 ≡ b.1 = ap (λ t. cond t b.1 (value_at bs b.0)) (itself b.0) in
    let some = h.1 in
    let none = e b.0 in
    absurd (omega arith)
  where
    itself : (a : ℕ) → eqb a a ≡ true
    itself a = grind (arith, nat_tests)
same_list rs low (b ∷ bs) (c ∷ cs) h k e =
    let same : b.0 ≡ c.0 = first_same in
    let value : b.1 ≡ c.1 = sym here_b ∙ e b.0 ∙ ap (value_at (c ∷ cs)) same ∙ here_c in
    let rest : bs ≡ cs = same_list rs (b.0 + 1) bs cs h.3 (subst (λ n. AreStored rs (n + 1) cs) (sym same) k.3) (λ q. tails q) in
    (λ i. (same i, value i) ∷ rest i)
  where
    itself : (a : ℕ) → eqb a a ≡ true
    itself a = grind (arith, nat_tests)

    here_b : value_at (b ∷ bs) b.0 ≡ b.1
    here_b = ap (λ t. cond t b.1 (value_at bs b.0)) (itself b.0)

    here_c : value_at (c ∷ cs) c.0 ≡ c.1
    here_c = ap (λ t. cond t c.1 (value_at cs c.0)) (itself c.0)

    cases : (a b : ℕ) → (a < b) ⊎ ((a ≡ b) ⊎ (b < a))
    cases a b = grind arith

    first_same : b.0 ≡ c.0
    first_same = elim (cases b.0 c.0) [
      | inl lt ↦
          let low_c = value_at-low rs c.0 (c ∷ cs) b.0 (omega arith, k.1, k.2, k.3) lt in
          let some = h.1 in
          let at = e b.0 in
          let is_b = here_b in
          absurd (omega arith)
      | inr (inl same) ↦ same
      | inr (inr gt) ↦
          let low_b = value_at-low rs b.0 (b ∷ bs) c.0 (omega arith, h.1, h.2, h.3) gt in
          let some = k.1 in
          let at = e c.0 in
          let is_c = here_c in
          absurd (omega arith)
    ]

    equal : (a q : ℕ) → eqb a q ≡ true → q ≡ a
    equal a q t = grind (arith, nat_tests)

    tails : (q : ℕ) → value_at bs q ≡ value_at cs q
    tails q = by_test (eqb b.0 q) refl
      where
        by_test : (t : Bool) → eqb b.0 q ≡ t → value_at bs q ≡ value_at cs q
        by_test true t =
            let at_b = equal b.0 q t in
            let same = first_same in
            value_at-low rs (b.0 + 1) bs q h.3 (omega arith) ∙ sym (value_at-low rs (c.0 + 1) cs q k.3 (omega arith))
        by_test false t =
            sym (ap (λ u. cond u b.1 (value_at bs q)) t) ∙ e q ∙ ap (λ u. cond u c.1 (value_at cs q)) (ap (λ n. eqb n q) (sym first_same) ∙ t)

-- Bytes that are read.

-- where no region has the address, no list has a byte
value_at-absent : (rs : List Region) (low : ℕ) (bs : ByteList) (q : ℕ) → AreStored rs low bs → is_there rs q ≡ false → value_at bs q ≡ 0
value_at-absent rs low [] q h off = refl
value_at-absent rs low (e ∷ es) q h off = by_test (eqb e.0 q) refl (value_at-absent rs (e.0 + 1) es q h.3 off)
  where
    equal : (a q : ℕ) → eqb a q ≡ true → a ≡ q
    equal a q t = grind (arith, nat_tests)

    by_test : (t : Bool) → eqb e.0 q ≡ t → value_at es q ≡ 0 → cond t e.1 (value_at es q) ≡ 0
    by_test true t rest = let there : is_there rs q ≡ true = subst (λ n. is_there rs n ≡ true) (equal e.0 q t) h.2 in absurd (cc)
    by_test false t rest = rest

pub unwrap_or-look : (rs : List Region) (low : ℕ) (bs : ByteList) (q : ℕ) → AreStored rs low bs → unwrap_or (look rs bs q) 0 ≡ value_at bs q
unfolding look
unwrap_or-look rs low bs q h = by_test (is_there rs q) refl
  where
    by_test : (t : Bool) → is_there rs q ≡ t → unwrap_or (cond t (Some (value_at bs q)) None) 0 ≡ value_at bs q
    by_test true t = refl
    by_test false t = sym (value_at-absent rs low bs q h t)

-- the bytes at n addresses, one by one
abbrev values : ByteList → ℕ → ℕ → List ℕ
values bs a zero = []
values bs a (suc n) = value_at bs a ∷ values bs (a + 1) n

same_values : (bs cs : ByteList) (a n : ℕ) → ((q : ℕ) → a ≤ q → value_at bs q ≡ value_at cs q) → values bs a n ≡ values cs a n
same_values bs cs a zero h = refl
same_values bs cs a (suc n) h =
    let here = h a (omega arith) in let rest = same_values bs cs (a + 1) n (λ q le. h q (omega arith)) in λ i. here i ∷ rest i

bytes_at-values : (rs : List Region) (low : ℕ) (bs : ByteList) (a n : ℕ) → AreStored rs low bs → bytes_at (look rs bs) a n ≡ values bs a n
unfolding bytes_at
bytes_at-values rs low bs a zero h = refl
bytes_at-values rs low bs a (suc n) h =
    let here = unwrap_or-look rs low bs a h in let rest = bytes_at-values rs low bs (a + 1) n h in λ i. here i ∷ rest i

filled-values : (rs : List Region) (bs : ByteList) (a n : ℕ) → AreStored rs a bs → filled bs a n ≡ values bs a n
filled-values rs bs a zero h = refl
filled-values rs [] a (suc n) h = let rest = filled-values rs [] (a + 1) n tt in λ i. 0 ∷ rest i
filled-values rs (e ∷ es) a (suc n) h = by_test (eqb e.0 a) refl (λ k. filled-values rs es (a + 1) n k) (λ k. filled-values rs (e ∷ es) (a + 1) n k)
  where
    equal : (x a : ℕ) → eqb x a ≡ true → x ≡ a
    equal x a t = grind (arith, nat_tests)

    past : (x a : ℕ) → eqb x a ≡ false → a ≤ x → a + 1 ≤ x
    past x a t le = grind (arith, nat_tests)

    other : (x a q : ℕ) → x ≡ a → a + 1 ≤ q → eqb x q ≡ false
    other x a q e le = grind (arith, nat_tests)

    by_test : (t : Bool) → eqb e.0 a ≡ t
        → (AreStored rs (a + 1) es → filled es (a + 1) n ≡ values es (a + 1) n)
        → (AreStored rs (a + 1) (e ∷ es) → filled (e ∷ es) (a + 1) n ≡ values (e ∷ es) (a + 1) n)
        → filled (e ∷ es) a (suc n) ≡ values (e ∷ es) a (suc n)
    by_test true t on off =
        let at = equal e.0 a t in
        let rest : filled es (a + 1) n ≡ values (e ∷ es) (a + 1) n =
        on (subst (λ m. AreStored rs (m + 1) es) at h.3)
        ∙ same_values es (e ∷ es) (a + 1) n (λ q le. sym (ap (λ u. cond u e.1 (value_at es q)) (other e.0 a q at le))) in
        (λ i. cond (t i) e.1 0 ∷ filled (cond (t i) es (e ∷ es)) (a + 1) n) ∙ (λ i. e.1 ∷ rest i) ∙ (λ i. cond (sym t i) e.1 (value_at es a) ∷ values (e ∷ es) (a + 1) n)
    by_test false t on off =
        let le = past e.0 a t h.0 in
        let rest : filled (e ∷ es) (a + 1) n ≡ values (e ∷ es) (a + 1) n = off (le, h.1, h.2, h.3) in
        let none : value_at (e ∷ es) a ≡ 0 = value_at-low rs (a + 1) (e ∷ es) a (le, h.1, h.2, h.3) (omega arith) in
        (λ i. cond (t i) e.1 0 ∷ filled (cond (t i) es (e ∷ es)) (a + 1) n) ∙ (λ i. sym none i ∷ rest i)

-- the bytes that are read are those that are looked up one by one
pub bytes_from-bytes_at : (rs : List Region) (bs : ByteList) (a n : ℕ) → AreStored rs 0 bs → bytes_from bs a n ≡ bytes_at (look rs bs) a n
unfolding bytes_from
bytes_from-bytes_at rs bs a n h =
    filled-values rs (filter (λ (e : ℕ × ℕ). nat_le a e.0) bs) a n (stored_lower rs (max 0 a) a _ (stored_above rs bs 0 a h) (omega arith))
    ∙ same_values (filter (λ (e : ℕ × ℕ). nat_le a e.0) bs) bs a n (λ q le. value_at-filter (λ x. nat_le a x) bs q ∙ ap (λ t. cond t (value_at bs q) 0) (within a q le))
    ∙ sym (bytes_at-values rs 0 bs a n h)
  where
    within : (a q : ℕ) → a ≤ q → nat_le a q ≡ true
    within a q le = grind (arith, nat_tests)
