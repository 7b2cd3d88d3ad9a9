-- What one call of an end in memory does to its count of faults.
use Rattle.std.proofs.Common.{◌≡◌, ℕ, zero, suc, ◌+◌, ◌^◌, ◌<◌, ◌≤◌, Bool, true, false, cond, not, ◌&&◌, List, [], ◌∷◌, length, take, drop, get_or, ◌++◌, refl, sym, ap, ◌∙◌, ◌⊎◌, inl, inr, arith}
use Rattle.std.specs.Prelude.{Contains, nat_lt, if◌then◌else◌}
use Rattle.std.proofs.lemmas.Bool.{cases_lt, lt-ltb, le-ltb, eq-eqb, ne_eqb}
use Rattle.std.proofs.lemmas.List.{length-take, take-append-drop, take_at}
use Rattle.tap_ground.specs.Counts.{one_more}
use Rattle.tap_outside.specs.Memory.{EndsWell, Supply, failed_calls, lists}

-- a test as a number
abbrev counted : Bool → ℕ
counted b = cond b 1 0

-- the list has this number, or not
lists-cons_same : (n : ℕ) (ns : List ℕ) (c : ℕ) → n ≡ c → lists (n ∷ ns) c ≡ true
lists-cons_same n ns c e = rw (eq-eqb n c e) refl

lists-cons_other : (n : ℕ) (ns : List ℕ) (c : ℕ) → (n ≡ c → ⊥) → lists (n ∷ ns) c ≡ lists ns c
lists-cons_other n ns c ne = rw (ne_eqb n c ne) refl

-- whether a number is this one
same_or_other : (n c : ℕ) → (n ≡ c) ⊎ (n ≡ c → ⊥)
same_or_other n c =
    elim (cases_lt n c) [
      | inl lt ↦ inr (λ e. omega arith)
      | inr ge ↦ elim (cases_lt c n) [ inl gt ↦ inr (λ e. omega arith) | inr le ↦ inl (omega arith) ]
    ]

lists-true : (ns : List ℕ) (c k : ℕ) → k < length ns → get_or ns k c ≡ c → lists ns c ≡ true
lists-true [] c k lt e = absurd (omega arith)
lists-true (n ∷ ns) c zero lt e = lists-cons_same n ns c e
lists-true (n ∷ ns) c (suc k) lt e =
    elim (same_or_other n c) [
      | inl same ↦ lists-cons_same n ns c same
      | inr other ↦ lists-cons_other n ns c other ∙ lists-true ns c k (omega arith) e
    ]

lists-false : (ns : List ℕ) (c : ℕ) → (Contains ns c → ⊥) → lists ns c ≡ false
lists-false [] c absent = refl
lists-false (n ∷ ns) c absent =
    let first : n ≡ c → ⊥ = λ e. absent (0, omega arith, e) in
    let others : Contains ns c → ⊥ = λ h. absent (suc h.0, omega (arith, h.1), h.2) in
    lists-cons_other n ns c first ∙ lists-false ns c others

both : (b : Bool) → counted b + counted (not b) ≡ 1
both true = refl
both false = refl

at_most_one : (b : Bool) → counted b ≤ 1
at_most_one true = omega arith
at_most_one false = omega arith

-- whether a number of the list counts, once so many calls are over
abbrev over : ℕ → List ℕ → ℕ → ℕ
over n ns calls = if nat_lt n calls && not (lists ns n) then 1 else 0

over-same : (n : ℕ) (ns : List ℕ) (c : ℕ) → n ≡ c → over n ns (c + 1) ≡ over n ns c + counted (not (lists ns c))
over-same n ns c e =
    let before : over n ns c ≡ 0 = rw (le-ltb n c (omega arith)) refl in
    let after : over n ns (c + 1) ≡ counted (not (lists ns n)) = rw (lt-ltb n (c + 1) (omega arith)) refl in
    let here : counted (not (lists ns n)) ≡ counted (not (lists ns c)) = ap (λ (k : ℕ). counted (not (lists ns k))) e in
    omega (arith, before, after, here)

over-other : (n : ℕ) (ns : List ℕ) (c : ℕ) → (n ≡ c → ⊥) → over n ns (c + 1) ≡ over n ns c
over-other n ns c ne =
    elim (cases_lt n c) [
      | inl lt ↦ rw (lt-ltb n c lt, lt-ltb n (c + 1) (omega arith)) refl
      | inr ge ↦ rw (le-ltb n c ge, le-ltb n (c + 1) (omega arith)) refl
    ]

-- one more call adds one where it is listed
failed_calls-next : (ns : List ℕ) (c : ℕ) → failed_calls ns (c + 1) ≡ failed_calls ns c + counted (lists ns c)
failed_calls-next [] c = refl
failed_calls-next (n ∷ ns) c =
    elim (same_or_other n c) [
      | inl same ↦
          let listed : counted (lists (n ∷ ns) c) ≡ 1 = ap counted (lists-cons_same n ns c same) in
          omega (arith, failed_calls-next ns c, over-same n ns c same, both (lists ns c), listed)
      | inr other ↦
          let listed : counted (lists (n ∷ ns) c) ≡ counted (lists ns c) = ap counted (lists-cons_other n ns c other) in
          omega (arith, failed_calls-next ns c, over-other n ns c other, listed)
    ]

failed_calls-zero : (ns : List ℕ) → failed_calls ns 0 ≡ 0
failed_calls-zero [] = refl
failed_calls-zero (n ∷ ns) = omega (arith, failed_calls-zero ns, (let none : over n ns 0 ≡ 0 = rw (le-ltb n 0 (omega arith)) refl in none))

-- no more faults than calls
failed_calls-few : (ns : List ℕ) (c : ℕ) → failed_calls ns c ≤ c
failed_calls-few ns zero = omega (arith, failed_calls-zero ns)
failed_calls-few ns (suc c) =
    let here : failed_calls ns (suc c) ≡ failed_calls ns (c + 1) = ap (λ (k : ℕ). failed_calls ns k) (omega arith) in
    omega (arith, here, failed_calls-few ns c, failed_calls-next ns c, at_most_one (lists ns c))

-- a listed call is one more fault
pub count_rises : (ns : List ℕ) (c d : ℕ) → d ≡ one_more c → c < 2 ^ 32 → Contains ns c → failed_calls ns d ≡ one_more (failed_calls ns c)
count_rises ns c d e lt h =
    let next : d ≡ c + 1 = omega arith in
    let listed : counted (lists ns c) ≡ 1 = ap counted (lists-true ns c h.0 h.1 h.2) in
    rw next (omega (arith, failed_calls-next ns c, failed_calls-few ns c, listed))

-- any other is none
pub count_stays : (ns : List ℕ) (c d : ℕ) → d ≡ one_more c → c < 2 ^ 64 → (Contains ns c → ⊥) → failed_calls ns d ≡ failed_calls ns c
count_stays ns c d e lt absent =
    let unlisted : counted (lists ns c) ≡ 0 = ap counted (lists-false ns c absent) in
    elim (cases_lt (c + 1) (2 ^ 64)) [
      | inl below ↦ let next : d ≡ c + 1 = omega arith in rw next (omega (arith, failed_calls-next ns c, unlisted))
      | inr last ↦ let same : d ≡ c = omega arith in rw same refl
    ]

-- a piece of at least one byte leaves fewer calls that can be needed
pub goes_on_well : (s : Supply) (left : List ℕ) (d : ℕ) → d ≡ one_more s.calls → 1 ≤ length s.left → length left + 1 ≤ length s.left
    → s.calls < 2 ^ 64 → EndsWell s → (call : ℕ) → Contains s.fails call → d ≤ call → d + length left < call
goes_on_well s left d e some fewer small well call listed late =
    let far = well call listed in
    elim (cases_lt call s.calls) [
      | inl before ↦ absurd (omega arith)
      | inr after ↦ let past : s.calls + length s.left < call = far after in omega arith
    ]

-- the bytes given are those taken from the front
pub given_is_taken : (left rest piece behind : List ℕ) (n : ℕ) → n ≤ length left → piece ≡ take n left → rest ≡ drop n left → left ≡ take n (piece ++ behind) ++ rest
given_is_taken left rest piece behind n le p r =
    let len : length piece ≡ n = rw p (omega (arith, length-take n left)) in
    rw (take_at piece behind n len, p, r) (sym (take-append-drop n left))
