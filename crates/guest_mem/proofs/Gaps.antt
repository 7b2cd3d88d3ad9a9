-- What the regions tell of a range.
use Rattle.std.proofs.Common.{◌≡◌, ℕ, ◌+◌, ◌-◌, ◌^◌, ◌<◌, ◌≤◌, ◌⊎◌, inl, inr, ◌&&◌, ◌||◌, Bool, true, false, not, cond, min, max, nat_lt, nat_le, List, [], ◌∷◌, ◌++◌, slice_get, Option, Some, None, is_some, is_none, IsSome, MatchOption, refl, sym, ap, ◌∙◌, subst, arith}
use Rattle.std.specs.List.{list_any}
use Rattle.std.specs.Option.{option_map}
use Rattle.std.proofs.lemmas.Bool.Decides.{nat_tests}
use Rattle.std.proofs.lemmas.List.Folds.{list_any-append}
use Rattle.guest_mem.specs.declared.region.Region.{Region}
use Rattle.guest_mem.specs.Memory.{ByteList, last_address, is_in, is_there, value_at, look, stretch, without, left_over, gaps, first_bad, covers, IsStretchAround, CoversBy, IsFirstBadBy}
use Rattle.guest_mem.proofs.Lists.{inside}

-- an address lies in a stretch
abbrev in_one : ℕ → (ℕ × ℕ) → Bool
in_one x s = nat_le s.0 x && nat_lt x s.1

abbrev in_some : ℕ → List (ℕ × ℕ) → Bool
in_some x ss = list_any (in_one x) ss

in_stretch : (x from to : ℕ) → in_some x (stretch from to) ≡ (nat_le from x && nat_lt x to)
in_stretch x from to = by_test (nat_lt from to) refl
  where
    or_false : (b : Bool) → (b || false) ≡ b
    or_false true = refl
    or_false false = refl

    none : (x from to : ℕ) → nat_lt from to ≡ false → false ≡ (nat_le from x && nat_lt x to)
    none x from to t = grind (arith, nat_tests)

    by_test : (b : Bool) → nat_lt from to ≡ b → in_some x (cond b ((from, to) ∷ []) []) ≡ (nat_le from x && nat_lt x to)
    by_test true t = or_false (nat_le from x && nat_lt x to)
    by_test false t = none x from to t

in_without : (x : ℕ) (r : Region) (ss : List (ℕ × ℕ)) → in_some x (without r ss) ≡ (in_some x ss && not (is_in x r))
in_without x r [] = refl
in_without x r (s ∷ ss) =
    list_any-append (in_one x) (stretch s.0 (min s.1 r.addr)) (stretch (max s.0 (r.addr + r.len)) s.1 ++ without r ss)
    ∙ ap (λ b. in_some x (stretch s.0 (min s.1 r.addr)) || b) (list_any-append (in_one x) (stretch (max s.0 (r.addr + r.len)) s.1) (without r ss))
    ∙ (λ i. in_stretch x s.0 (min s.1 r.addr) i || (in_stretch x (max s.0 (r.addr + r.len)) s.1 i || in_without x r ss i))
    ∙ regroup (nat_le s.0 x && nat_lt x (min s.1 r.addr)) (nat_le (max s.0 (r.addr + r.len)) x && nat_lt x s.1) (in_one x s) (is_in x r) (in_some x ss) (parts s.0 s.1 r.addr r.len x)
  where
    parts : (from to addr len x : ℕ) → ((nat_le from x && nat_lt x (min to addr)) || (nat_le (max from (addr + len)) x && nat_lt x to)) ≡ ((nat_le from x && nat_lt x to) && not (nat_le addr x && nat_lt x (addr + len)))
    parts from to addr len x = grind (arith, nat_tests)

    regroup : (a b c d e : Bool) → (a || b) ≡ (c && not d) → (a || (b || (e && not d))) ≡ ((c || e) && not d)
    regroup true b true false e h = refl
    regroup true b true true e h = absurd (cc)
    regroup true b false d e h = absurd (cc)
    regroup false true true false e h = refl
    regroup false true true true e h = absurd (cc)
    regroup false true false d e h = absurd (cc)
    regroup false false true false e h = absurd (cc)
    regroup false false true true true h = refl
    regroup false false true true false h = refl
    regroup false false false d e h = refl

in_left_over : (x : ℕ) (rs : List Region) (ss : List (ℕ × ℕ)) → in_some x (left_over rs ss) ≡ (in_some x ss && not (list_any (is_in x) rs))
in_left_over x [] ss = and_true (in_some x ss)
  where
    and_true : (b : Bool) → b ≡ (b && true)
    and_true true = refl
    and_true false = refl
in_left_over x (r ∷ rs) ss = in_left_over x rs (without r ss) ∙ ap (λ b. b && not (list_any (is_in x) rs)) (in_without x r ss) ∙ both (in_some x ss) (is_in x r) (list_any (is_in x) rs)
  where
    both : (a b c : Bool) → ((a && not b) && not c) ≡ (a && not (b || c))
    both true true c = refl
    both true false c = refl
    both false b c = refl

-- an address is in a gap of a range where it is in the range, and no byte is there
in_gaps : (rs : List Region) (a n x : ℕ) → in_some x (gaps rs a n) ≡ (inside a n x && not (is_there rs x))
unfolding gaps is_there
in_gaps rs a n x =
    list_any-append (in_one x) (left_over rs (stretch a (min (a + n) last_address))) (stretch (max a last_address) (a + n))
    ∙ (λ i. in_left_over x rs (stretch a (min (a + n) last_address)) i || in_stretch x (max a last_address) (a + n) i)
    ∙ ap (λ b. (b && not (list_any (is_in x) rs)) || (nat_le (max a last_address) x && nat_lt x (a + n))) (in_stretch x a (min (a + n) last_address))
    ∙ split (nat_le a x && nat_lt x (min (a + n) last_address)) (nat_le (max a last_address) x && nat_lt x (a + n)) (inside a n x) (nat_lt x last_address) (list_any (is_in x) rs) (parts a n x)
  where
    parts : (a n x : ℕ) → ((nat_le a x && nat_lt x (min (a + n) last_address)) ≡ (inside a n x && nat_lt x last_address)) × ((nat_le (max a last_address) x && nat_lt x (a + n)) ≡ (inside a n x && not (nat_lt x last_address)))
    parts a n x = (grind (arith, nat_tests), grind (arith, nat_tests))

    split : (low high range small any : Bool) → (low ≡ (range && small)) × (high ≡ (range && not small)) → ((low && not any) || high) ≡ (range && not (small && any))
    split low high range small any h = (λ i. (h.0 i && not any) || h.1 i) ∙ cases range small any
      where
        cases : (range small any : Bool) → (((range && small) && not any) || (range && not small)) ≡ (range && not (small && any))
        cases true true true = refl
        cases true true false = refl
        cases true false any = refl
        cases false small any = refl

-- stretches that are not empty and rise, between two addresses
AreGaps : ℕ → ℕ → List (ℕ × ℕ) → Type 0
AreGaps low high [] = low ≤ high
AreGaps low high (s ∷ ss) = (low ≤ s.0) × (s.0 < s.1) × AreGaps s.1 high ss

gaps_order : (low high : ℕ) (ss : List (ℕ × ℕ)) → AreGaps low high ss → low ≤ high
unfolding AreGaps
gaps_order low high [] h = h
gaps_order low high (s ∷ ss) h = let rest = gaps_order s.1 high ss h.2 in let first = h.0 in let some = h.1 in omega arith

gaps_lower : (low less high : ℕ) (ss : List (ℕ × ℕ)) → less ≤ low → AreGaps low high ss → AreGaps less high ss
unfolding AreGaps
gaps_lower low less high [] le h = omega arith
gaps_lower low less high (s ∷ ss) le h = let first = h.0 in (omega arith, h.1, h.2)

gaps_append : (low mid high : ℕ) (ss ts : List (ℕ × ℕ)) → AreGaps low mid ss → AreGaps mid high ts → AreGaps low high (ss ++ ts)
unfolding AreGaps
gaps_append low mid high [] ts h k = gaps_lower mid low high ts h k
gaps_append low mid high (s ∷ ss) ts h k = (h.0, h.1, gaps_append s.1 mid high ss ts h.2 k)

gaps_stretch : (low high from to : ℕ) → low ≤ from → to ≤ high → low ≤ high → AreGaps low high (stretch from to)
unfolding AreGaps
gaps_stretch low high from to lf th lh = by_test (nat_lt from to) refl
  where
    less : (from to : ℕ) → nat_lt from to ≡ true → from < to
    less from to t = grind (arith, nat_tests)

    by_test : (b : Bool) → nat_lt from to ≡ b → AreGaps low high (cond b ((from, to) ∷ []) [])
    by_test true t = (lf, less from to t, th)
    by_test false t = lh

gaps_without : (low high : ℕ) (r : Region) (ss : List (ℕ × ℕ)) → AreGaps low high ss → AreGaps low high (without r ss)
unfolding AreGaps
gaps_without low high r [] h = h
gaps_without low high r (s ∷ ss) h =
    let first = h.0 in
    let some = h.1 in
    gaps_append low (min s.1 (max s.0 (r.addr + r.len))) high (stretch s.0 (min s.1 r.addr)) (stretch (max s.0 (r.addr + r.len)) s.1 ++ without r ss)
    (gaps_stretch low (min s.1 (max s.0 (r.addr + r.len))) s.0 (min s.1 r.addr) first (omega arith) (omega arith))
    (gaps_append (min s.1 (max s.0 (r.addr + r.len))) s.1 high (stretch (max s.0 (r.addr + r.len)) s.1) (without r ss)
    (gaps_stretch (min s.1 (max s.0 (r.addr + r.len))) s.1 (max s.0 (r.addr + r.len)) s.1 (omega arith) (omega arith) (omega arith))
    (gaps_without s.1 high r ss h.2))

gaps_left_over : (low high : ℕ) (rs : List Region) (ss : List (ℕ × ℕ)) → AreGaps low high ss → AreGaps low high (left_over rs ss)
gaps_left_over low high [] ss h = h
gaps_left_over low high (r ∷ rs) ss h = gaps_left_over low high rs (without r ss) (gaps_without low high r ss h)

gaps_rise : (rs : List Region) (a n : ℕ) → AreGaps a (max (a + n) (max a last_address)) (gaps rs a n)
unfolding gaps
gaps_rise rs a n =
    gaps_append a (max a last_address) (max (a + n) (max a last_address)) (left_over rs (stretch a (min (a + n) last_address))) (stretch (max a last_address) (a + n))
    (gaps_left_over a (max a last_address) rs _ (gaps_stretch a (max a last_address) a (min (a + n) last_address) (omega arith) (omega arith) (omega arith)))
    (gaps_stretch (max a last_address) (max (a + n) (max a last_address)) (max a last_address) (a + n) (omega arith) (omega arith) (omega arith))

-- what lies before the first stretch is in none
before_gaps : (x low high : ℕ) (ss : List (ℕ × ℕ)) → AreGaps low high ss → x < low → in_some x ss ≡ false
unfolding AreGaps
before_gaps x low high [] h lt = refl
before_gaps x low high (s ∷ ss) h lt =
    let first = h.0 in
    let some = h.1 in
    let off : in_one x s ≡ false = out x s.0 s.1 (omega arith) in
    ap (λ b. b || in_some x ss) off ∙ before_gaps x s.1 high ss h.2 (omega arith)
  where
    out : (x from to : ℕ) → x < from → (nat_le from x && nat_lt x to) ≡ false
    out x from to lt = grind (arith, nat_tests)

pub is_some-look : (rs : List Region) (bs : ByteList) (x : ℕ) → is_some (look rs bs x) ≡ is_there rs x
unfolding look
is_some-look rs bs x = tested (is_there rs x) (value_at bs x)
  where
    tested : (b : Bool) (v : ℕ) → is_some (cond b (Some v) None) ≡ b
    tested true v = refl
    tested false v = refl

none_of : (o : Option ℕ) → is_some o ≡ false → o ≡ None
none_of None e = refl
none_of (Some v) e = absurd (cc)

pub inside_on : (a n k : ℕ) → k < n → inside a n (a + k) ≡ true
inside_on a n k lt = grind (arith, nat_tests)

pub inside_by : (a n x : ℕ) → a ≤ x → x < a + n → inside a n x ≡ true
inside_by a n x low high = grind (arith, nat_tests)

inside_of : (a n x : ℕ) → inside a n x ≡ true → (a ≤ x) × (x < a + n)
inside_of a n x t = grind (arith, nat_tests)

there_from : (in_gap range there : Bool) → in_gap ≡ (range && not there) → in_gap ≡ false → range ≡ true → there ≡ true
there_from in_gap true true e f r = refl
there_from in_gap true false e f r = let contra : false ≡ true = sym f ∙ e in absurd (cc)
there_from in_gap false there e f r = absurd (cc)

gap_from : (in_gap range there : Bool) → in_gap ≡ (range && not there) → in_gap ≡ true → (range ≡ true) × (there ≡ false)
gap_from in_gap true true e t = let contra : true ≡ false = sym t ∙ e in absurd (cc)
gap_from in_gap true false e t = (refl, refl)
gap_from in_gap false there e t = let contra : true ≡ false = sym t ∙ e in absurd (cc)

told_by : (rs : List Region) (bs : ByteList) (a n high : ℕ) (ss : List (ℕ × ℕ)) → ((x : ℕ) → in_some x ss ≡ (inside a n x && not (is_there rs x))) → AreGaps a high ss
    → MatchOption (option_map (λ (s : ℕ × ℕ). s.0) (slice_get ss 0)) (CoversBy (look rs bs) a n) (IsFirstBadBy (look rs bs) a n)
unfolding AreGaps
told_by rs bs a n high [] in_ss rise = λ k lt. is_some-look rs bs (a + k) ∙ there_from false (inside a n (a + k)) (is_there rs (a + k)) (in_ss (a + k)) refl (inside_on a n k lt)
told_by rs bs a n high (s ∷ ss) in_ss rise =
    let some = rise.1 in
    let on : in_some s.0 (s ∷ ss) ≡ true = ap (λ b. b || in_some s.0 ss) (at_start s.0 s.1 some) in
    let bad = gap_from (in_some s.0 (s ∷ ss)) (inside a n s.0) (is_there rs s.0) (in_ss s.0) on in
    let range = inside_of a n s.0 bad.0 in
    record {
      start = range.0;
      within = range.1;
      missing = none_of (look rs bs s.0) (is_some-look rs bs s.0 ∙ bad.1);
      first = λ x low lt. is_some-look rs bs x ∙ there_from (in_some x (s ∷ ss)) (inside a n x) (is_there rs x) (in_ss x)
          (before_gaps x s.0 high (s ∷ ss) (omega arith, rise.1, rise.2) lt) (let last = range.1 in inside_by a n x low (omega arith));
    }
  where
    at_start : (from to : ℕ) → from < to → (nat_le from from && nat_lt from to) ≡ true
    at_start from to lt = grind (arith, nat_tests)

-- what the regions tell of a range is so
pub told : (rs : List Region) (bs : ByteList) (a n : ℕ) → MatchOption (first_bad rs a n) (CoversBy (look rs bs) a n) (IsFirstBadBy (look rs bs) a n)
unfolding first_bad
told rs bs a n = told_by rs bs a n (max (a + n) (max a last_address)) (gaps rs a n) (in_gaps rs a n) (gaps_rise rs a n)

-- no range with a bad byte is covered
pub not_covered : (by : ℕ → Option ℕ) (a n bad : ℕ) → IsFirstBadBy by a n bad → CoversBy by a n → ⊥
not_covered by a n bad h covered =
    let start = h.start in
    let within = h.within in
    let e : a + (bad - a) ≡ bad = omega arith in
    let none : is_some (by (a + (bad - a))) ≡ false = ap (λ x. is_some (by x)) e ∙ ap is_some h.missing in
    let some : is_some (by (a + (bad - a))) ≡ true = covered (bad - a) (omega arith) in
    let contra : false ≡ true = sym none ∙ some in
    absurd (cc)

-- a range has one first bad byte
one_bad : (by : ℕ → Option ℕ) (a n b c : ℕ) → IsFirstBadBy by a n b → IsFirstBadBy by a n c → b ≡ c
one_bad by a n b c h k = elim (cases b c) [
  | inl lt ↦ let contra : false ≡ true = sym (ap is_some h.missing) ∙ k.first b h.start lt in absurd (cc)
  | inr (inl e) ↦ e
  | inr (inr gt) ↦ let contra : false ≡ true = sym (ap is_some k.missing) ∙ h.first c k.start gt in absurd (cc)
]
  where
    cases : (a b : ℕ) → (a < b) ⊎ ((a ≡ b) ⊎ (b < a))
    cases a b = grind arith

-- the first bad byte of a range is the one that is told
pub first_bad-is : (rs : List Region) (bs : ByteList) (a n bad : ℕ) → IsFirstBadBy (look rs bs) a n bad → first_bad rs a n ≡ Some bad
first_bad-is rs bs a n bad h = by_told (first_bad rs a n) (told rs bs a n)
  where
    by_told : (o : Option ℕ) → MatchOption o (CoversBy (look rs bs) a n) (IsFirstBadBy (look rs bs) a n) → o ≡ Some bad
    by_told None t = absurd (not_covered (look rs bs) a n bad h t)
    by_told (Some other) t = ap (λ x. Some x) (one_bad (look rs bs) a n other bad t h)

-- a range in which there is a byte everywhere has no bad one
pub first_bad-none : (rs : List Region) (bs : ByteList) (a n : ℕ) → CoversBy (look rs bs) a n → first_bad rs a n ≡ None
first_bad-none rs bs a n h = by_told (first_bad rs a n) (told rs bs a n)
  where
    by_told : (o : Option ℕ) → MatchOption o (CoversBy (look rs bs) a n) (IsFirstBadBy (look rs bs) a n) → o ≡ None
    by_told None t = refl
    by_told (Some other) t = absurd (not_covered (look rs bs) a n other t h)

-- a range that is covered has a byte everywhere
pub covers-all : (rs : List Region) (bs : ByteList) (a n : ℕ) → covers rs a n ≡ true → CoversBy (look rs bs) a n
covers-all rs bs a n h = by_told (first_bad rs a n) h (told rs bs a n)
  where
    by_told : (o : Option ℕ) → is_none o ≡ true → MatchOption o (CoversBy (look rs bs) a n) (IsFirstBadBy (look rs bs) a n) → CoversBy (look rs bs) a n
    by_told None e t = t
    by_told (Some other) e t = absurd (cc)

pub covers-there : (rs : List Region) (a n : ℕ) → covers rs a n ≡ true → (k : ℕ) → k < n → is_there rs (a + k) ≡ true
covers-there rs a n h k lt = sym (is_some-look rs [] (a + k)) ∙ covers-all rs [] a n h k lt

-- each part of a covered range is covered
pub covers-part : (rs : List Region) (a n b k : ℕ) → covers rs a n ≡ true → a ≤ b → b + k ≤ a + n → covers rs b k ≡ true
covers-part rs a n b k h low high = ap is_none (first_bad-none rs [] b k (λ j lt. subst (λ x. IsSome (look rs [] x)) (shifted a b j low) (covers-all rs [] a n h (b - a + j) (omega arith))))
  where
    shifted : (a b j : ℕ) → a ≤ b → a + (b - a + j) ≡ b + j
    shifted a b j low = omega arith

-- the last address has no byte
there_fits : (rs : List Region) (x : ℕ) → is_there rs x ≡ true → x < last_address
unfolding is_there
there_fits rs x h = small (list_any (is_in x) rs) x h
  where
    first_on : (a b : Bool) → (a && b) ≡ true → a ≡ true
    first_on true b e = refl
    first_on false b e = absurd (cc)

    less : (x : ℕ) → nat_lt x last_address ≡ true → x < last_address
    less x t = grind (arith, nat_tests)

    small : (any : Bool) (x : ℕ) → (nat_lt x last_address && any) ≡ true → x < last_address
    small any x e = less x (first_on (nat_lt x last_address) any e)

pub covers-fits : (rs : List Region) (a n : ℕ) → covers rs a n ≡ true → 0 < n → a + n < 2 ^ 64
covers-fits rs a n h some = let last = there_fits rs (a + (n - 1)) (covers-there rs a n h (n - 1) (omega arith)) in omega arith

-- a range that starts in a stretch is covered where it ends in it
pub covers-stretch : (rs : List Region) (a : ℕ) (s : Region) (b n : ℕ) → IsStretchAround rs a s → is_in b s ≡ true → 0 < n → covers rs b n ≡ nat_le (b + n) (s.addr + s.len)
covers-stretch rs a s b n h start some = elim (cases (b + n) (s.addr + s.len)) [
  | inl le ↦ covers-part rs s.addr s.len b n h.covered from.0 le ∙ sym (at_most (b + n) (s.addr + s.len) le)
  | inr gt ↦ not_true (covers rs b n) (λ all. beyond all gt) ∙ sym (past (b + n) (s.addr + s.len) gt)
]
  where
    from : (s.addr ≤ b) × (b < s.addr + s.len)
    from = inside_of s.addr s.len b start

    cases : (x y : ℕ) → (x ≤ y) ⊎ (y < x)
    cases x y = grind arith

    at_most : (x y : ℕ) → x ≤ y → nat_le x y ≡ true
    at_most x y le = grind (arith, nat_tests)

    past : (x y : ℕ) → y < x → nat_le x y ≡ false
    past x y lt = grind (arith, nat_tests)

    not_true : (t : Bool) → (t ≡ true → ⊥) → t ≡ false
    not_true true no_more = absurd (no_more refl)
    not_true false no_more = refl

    beyond : covers rs b n ≡ true → s.addr + s.len < b + n → ⊥
    beyond all gt =
        let low = from.0 in
        let high = from.1 in
        let place : b + (s.addr + s.len - b) ≡ s.addr + s.len = omega arith in
        let there : is_there rs (s.addr + s.len) ≡ true = subst (λ x. is_there rs x ≡ true) place (covers-there rs b n all (s.addr + s.len - b) (omega arith)) in
        let none = h.behind in
        absurd (cc)
