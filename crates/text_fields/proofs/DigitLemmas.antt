-- Bytes and numbers as hexadecimal digits, both ways.
use Rattle.std.proofs.Common.{◌≡◌, ◌⊎◌, ℕ, zero, suc, ◌+◌, ◌*◌, ◌/◌, ◌%◌, ◌-◌, ◌<◌, ◌≤◌, Bool, true, false, cond, ◌&&◌, ◌||◌, not, eqb, ltb, leb, List, [], ◌∷◌, length, get_or, inl, inr, Option, Some, None, Result, Ok, Err, refl, sym, ap, subst, ◌∙◌, arith}
use Rattle.std.specs.List.{list_all, AllByRecursion}
use Rattle.std.specs.Option.{option_map}
use Rattle.std.specs.Result.{result_ok}
use Rattle.std.proofs.lemmas.Bool.{and_parts, and_from, cases_lt, lt-ltb, le-ltb, leb-true}
use Rattle.hex.specs.Hex as hex
use Rattle.hex.specs.Hex.{IsBytes, decode_of, decode_pairs, encode_lower, encode_with, hex_digit_value, lower_digits, pair_value}
use Rattle.hex.specs.declared.error.FromHexError.{FromHexError}
use Rattle.hex.proofs.HexLemmas.{IsDigits-lower_digits, decode_of-encode_lower, decode_of-even, decode_of-ok, length-encode_with}
use Rattle.hex.proofs.Pairs.{cons_byte, decode_pairs-ok_pair}
use Rattle.text_fields.specs.Hexadecimal.{bytes_of, is_lower_digit}

-- ---- in general

pub weaken : {X : Type 0} (p q : X → Bool) → ((x : X) → p x ≡ true → q x ≡ true) → (xs : List X) → list_all p xs ≡ true → list_all q xs ≡ true
weaken p q h [] all = refl
weaken p q h (x ∷ xs) all =
    let parts = and_parts (p x) (list_all p xs) all in
    and_from (q x) (list_all q xs) (h x parts.0) (weaken p q h xs parts.1)

pub guard_some : {A : Type 0} (b : Bool) (o : Option A) (y : A) → cond b o None ≡ Some y → (b ≡ true) × (o ≡ Some y)
guard_some true o y e = (refl, e)
guard_some false o y e = absurd cc

pub map_some : {A B : Type 0} (f : A → B) (o : Option A) (y : B) → option_map f o ≡ Some y → (x : A) × (o ≡ Some x) × (f x ≡ y)
map_some f (Some x) y e = (x, refl, cc)
map_some f None y e = absurd cc

-- ---- the digits of bytes

abbrev pub Small : List ℕ → Type 0
Small bytes = AllByRecursion (λ b. b < 256) bytes

-- the test of the first n digits of the table, which computes
abbrev first_are_lower : ℕ → Bool
first_are_lower zero = true
first_are_lower (suc n) = is_lower_digit (get_or lower_digits n 0) && first_are_lower n

first_are_lower-at : (n k : ℕ) → first_are_lower n ≡ true → k < n → is_lower_digit (get_or lower_digits k 0) ≡ true
first_are_lower-at zero k h lt = absurd (omega arith)
first_are_lower-at (suc n) k h lt =
    let parts = and_parts (is_lower_digit (get_or lower_digits n 0)) (first_are_lower n) h in
    elim (cases_lt k n) [
      | inl below ↦ first_are_lower-at n k parts.1 below
      | inr top ↦
          let e : n ≡ k = omega arith in
          subst (λ (i : ℕ). is_lower_digit (get_or lower_digits i 0) ≡ true) e parts.0
    ]

pub digit_is_lower : (k : ℕ) → k < 16 → is_lower_digit (get_or lower_digits k 0) ≡ true
digit_is_lower k lt = first_are_lower-at 16 k refl lt

pub hex_is_lower : (bytes : List ℕ) → Small bytes → list_all is_lower_digit (encode_lower bytes) ≡ true
unfolding encode_with
hex_is_lower [] h = refl
hex_is_lower (b ∷ bytes) h =
    let high : b / 16 < 16 = let small = h.0 in omega (arith, small) in
    let low : b % 16 < 16 = omega arith in
    and_from (is_lower_digit (get_or lower_digits (b / 16) 0)) _ (digit_is_lower (b / 16) high)
    (and_from (is_lower_digit (get_or lower_digits (b % 16) 0)) (list_all is_lower_digit (encode_lower bytes)) (digit_is_lower (b % 16) low) (hex_is_lower bytes h.1))

-- ---- bytes are read again

pub bytes_at : (bytes : List ℕ) → Small bytes → IsBytes bytes
bytes_at [] h k = omega arith
bytes_at (b ∷ bytes) h zero = h.0
bytes_at (b ∷ bytes) h (suc k) = bytes_at bytes h.1 k

some_digits : (n m : ℕ) → 0 < n → m ≡ 2 * n → not (eqb m 0) ≡ true
some_digits n m h e = grind arith

pub bytes_again : (bytes : List ℕ) → 0 < length bytes → Small bytes → bytes_of (encode_lower bytes) ≡ Some bytes
unfolding bytes_of
bytes_again bytes some h =
    let lower = hex_is_lower bytes h in
    let long = some_digits (length bytes) (length (encode_lower bytes)) some (length-encode_with lower_digits bytes) in
    rw (lower, long, decode_of-encode_lower bytes (bytes_at bytes h)) refl

-- ---- what is read as bytes

or_cases : (x y : Bool) → (x || y) ≡ true → (x ≡ true) ⊎ (y ≡ true)
or_cases true y h = inl refl
or_cases false y h = inr h

lower_kind : (c : ℕ) → is_lower_digit c ≡ true → ((48 ≤ c) × (c ≤ 57)) ⊎ ((97 ≤ c) × (c ≤ 102))
lower_kind c h =
    elim (or_cases (leb 48 c && leb c 57) (leb 97 c && leb c 102) h) [
      | inl number ↦ let p = and_parts (leb 48 c) (leb c 57) number in inl (leb-true 48 c p.0, leb-true c 57 p.1)
      | inr letter ↦ let p = and_parts (leb 97 c) (leb c 102) letter in inr (leb-true 97 c p.0, leb-true c 102 p.1)
    ]

number_value : (c : ℕ) → 48 ≤ c → c ≤ 57 → hex_digit_value c ≡ Some (c - 48)
number_value c low high = grind arith

letter_value : (c : ℕ) → 97 ≤ c → c ≤ 102 → hex_digit_value c ≡ Some (c - 87)
letter_value c low high = grind arith

abbrev value : ℕ → ℕ
value c = cond (ltb c 58) (c - 48) (c - 87)

lower_value : (c : ℕ) → is_lower_digit c ≡ true → (hex_digit_value c ≡ Some (value c)) × (value c < 16)
lower_value c h =
    elim (lower_kind c h) [
      | inl number ↦
          let low : 48 ≤ c = number.0 in
          let high : c ≤ 57 = number.1 in
          let e : value c ≡ c - 48 = rw (lt-ltb c 58 (omega arith)) refl in
          (number_value c low high ∙ ap Some (sym e), rw e (omega arith))
      | inr letter ↦
          let low : 97 ≤ c = letter.0 in
          let high : c ≤ 102 = letter.1 in
          let e : value c ≡ c - 87 = rw (le-ltb c 58 (omega arith)) refl in
          (letter_value c low high ∙ ap Some (sym e), rw e (omega arith))
    ]

value_is : (x v : ℕ) → Some x ≡ Some v → x ≡ v
value_is x v e = cc

from_value : (c : ℕ) → is_lower_digit c ≡ true → c ≡ cond (ltb (value c) 10) (value c + 48) (value c + 87)
from_value c h =
    elim (lower_kind c h) [
      | inl number ↦
          let low : 48 ≤ c = number.0 in
          let high : c ≤ 57 = number.1 in
          let e : value c ≡ c - 48 = rw (lt-ltb c 58 (omega arith)) refl in
          rw (e, lt-ltb (c - 48) 10 (omega arith)) (omega arith)
      | inr letter ↦
          let low : 97 ≤ c = letter.0 in
          let high : c ≤ 102 = letter.1 in
          let e : value c ≡ c - 87 = rw (le-ltb c 58 (omega arith)) refl in
          rw (e, le-ltb (c - 87) 10 (omega arith)) (omega arith)
    ]

digit_at_value : (c : ℕ) → is_lower_digit c ≡ true → get_or lower_digits (value c) 0 ≡ c
digit_at_value c h =
    let v = lower_value c h in
    let d = get_or lower_digits (value c) 0 in
    let lower = digit_is_lower (value c) v.1 in
    let values : value d ≡ value c = value_is (value d) (value c) (sym (lower_value d lower).0 ∙ IsDigits-lower_digits (value c) v.1) in
    from_value d lower ∙ ap (λ (k : ℕ). cond (ltb k 10) (k + 48) (k + 87)) values ∙ sym (from_value c h)

-- ---- bytes

abbrev done : List ℕ → Result (List ℕ) FromHexError
done x = Ok x

bytes_of_ok : (x y : List ℕ) → done x ≡ done y → x ≡ y
bytes_of_ok x y e = cc

read_ok : (r : Result (List ℕ) FromHexError) (b : ℕ) (bytes : List ℕ) → cons_byte b r ≡ Ok bytes → (rest : List ℕ) × (r ≡ Ok rest) × (bytes ≡ b ∷ rest)
read_ok (Ok rest) b bytes e = (rest, refl, sym (bytes_of_ok (b ∷ rest) bytes e))
read_ok (Err d) b bytes e = absurd cc

pair_is : (a b i : ℕ) → is_lower_digit a ≡ true → is_lower_digit b ≡ true → pair_value a b i ≡ Ok (value a * 16 + value b)
pair_is a b i p q = rw ((lower_value a p).0, (lower_value b q).0) refl

digits_are : (a b : ℕ) → is_lower_digit a ≡ true → is_lower_digit b ≡ true
    → (get_or lower_digits ((value a * 16 + value b) / 16) 0 ≡ a) × (get_or lower_digits ((value a * 16 + value b) % 16) 0 ≡ b)
digits_are a b p q =
    let small : value b < 16 = (lower_value b q).1 in
    let high : (value a * 16 + value b) / 16 ≡ value a = omega arith in
    let low : (value a * 16 + value b) % 16 ≡ value b = omega arith in
    (ap (λ (k : ℕ). get_or lower_digits k 0) high ∙ digit_at_value a p, ap (λ (k : ℕ). get_or lower_digits k 0) low ∙ digit_at_value b q)

-- lower-case digits are what is written of their bytes
pairs_take : (i : ℕ) (s bytes : List ℕ) → list_all is_lower_digit s ≡ true → decode_pairs i s ≡ Ok bytes → s ≡ encode_lower bytes
unfolding decode_pairs encode_with
pairs_take i [] bytes h e = ap encode_lower (bytes_of_ok [] bytes e)
pairs_take i (a ∷ []) bytes h e = absurd cc
pairs_take i (a ∷ b ∷ rest) bytes h e =
    let p = and_parts (is_lower_digit a) _ h in
    let q = and_parts (is_lower_digit b) (list_all is_lower_digit rest) p.1 in
    let read = read_ok (decode_pairs (i + 2) rest) (value a * 16 + value b) bytes (sym (decode_pairs-ok_pair i a b _ rest (pair_is a b i p.0 q.0)) ∙ e) in
    let others = pairs_take (i + 2) rest read.0 q.1 read.1 in
    let pair = digits_are a b p.0 q.0 in
    rw (read.2, pair.0, pair.1) (ap (λ (t : List ℕ). a ∷ b ∷ t) others)

are_bytes : (bytes : List ℕ) → hex.IsBytes bytes → Small bytes
are_bytes [] h = tt
are_bytes (b ∷ bytes) h = (h 0, are_bytes bytes (λ k. h (suc k)))

some_bytes : (n m : ℕ) → not (eqb m 0) ≡ true → m ≡ 2 * n → 0 < n
some_bytes n m h e = grind arith

ok_part : (r : Result (List ℕ) FromHexError) (bytes : List ℕ) → result_ok r ≡ Some bytes → r ≡ Ok bytes
ok_part (Ok x) bytes e = cc
ok_part (Err d) bytes e = absurd cc

pub record IsHex (field bytes : List ℕ) : Type 0 where
  pub written : field ≡ encode_lower bytes
  pub some : 0 < length bytes
  pub each : Small bytes

pub bytes_take : (field bytes : List ℕ) → bytes_of field ≡ Some bytes → IsHex field bytes
unfolding bytes_of
bytes_take field bytes e =
    let g = guard_some (list_all is_lower_digit field && not (eqb (length field) 0)) (result_ok (decode_of field)) bytes e in
    let p = and_parts (list_all is_lower_digit field) (not (eqb (length field) 0)) g.0 in
    let decoded : decode_of field ≡ Ok bytes = ok_part (decode_of field) bytes g.1 in
    let parts = decode_of-ok field bytes decoded in
    record {
      written = pairs_take 0 field bytes p.0 (sym (decode_of-even field parts.0) ∙ decoded);
      some = some_bytes (length bytes) (length field) p.1 parts.2;
      each = are_bytes bytes parts.3;
    }
