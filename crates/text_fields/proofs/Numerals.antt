-- Numbers as their decimal digits.
use Rattle.std.proofs.Common.{Result, Ok, Err, ◌≡◌, ℕ, ◌^◌, ◌<◌, Bool, true, false, cond, ◌&&◌, ◌||◌, eqb, ltb, not, List, [], ◌∷◌, length, get_or, Option, Some, None, refl, sym, ap, ◌∙◌, arith, rules, inl, inr}
use Rattle.std.specs.Char.{is_ascii_digit}
use Rattle.std.specs.List.{list_all}
use Rattle.std.specs.Option.{SomeIff}
use Rattle.std.specs.Fmt.{decimal}
use Rattle.std.specs.Result.{OkIff, result_ok}
use Rattle.std.specs.Str.{IsAscii, IsUtf8}
use Rattle.std.specs.Str.Parse.{digits_value, ParsesUnsigned}
use Rattle.std.proofs.lemmas.Bool.{and_parts, cases_lt, ltb-true, lt-ltb}
use Rattle.std.proofs.lemmas.Str.{IsUtf8-from_ascii}
use Rattle.std.proofs.lemmas.Str.Ascii.{IsAscii-nil, IsAscii-cons}
use Rattle.std.proofs.lemmas.Str.Parse.{IsNumeralModel, IsDigitsTest, numerals_by_value, parse_digits}
use Rattle.std.proofs.lemmas.Fmt.{digits_decimal, digits_value-decimal, decimal-digits_value, decimal_digit, decimal_nonempty, first_decimal}
use Rattle.text_fields.specs.Numbers.{is_numeral, number_of}

abbrev pub AreDigits : List ℕ → Type 0
AreDigits ds = list_all is_ascii_digit ds ≡ true

tells : IsDigitsTest AreDigits
tells = search rules

pub own : IsNumeralModel AreDigits (digits_value 10)
own = numerals_by_value AreDigits tells

digit_below : (c : ℕ) → is_ascii_digit c ≡ true → c < 128
digit_below c h = grind arith

digits_are_ascii : (ds : List ℕ) → AreDigits ds → IsAscii ds
digits_are_ascii [] h = IsAscii-nil
digits_are_ascii (d ∷ ds) h =
    let p = and_parts (is_ascii_digit d) (list_all is_ascii_digit ds) h in
    IsAscii-cons d ds (digit_below d p.0) (digits_are_ascii ds p.1)

some_length : (n : ℕ) → not (eqb n 0) ≡ true → 0 < n
some_length n h = grind arith

alone : (n first : ℕ) → (eqb n 1 || not (eqb first 48)) ≡ true → first ≡ 48 → n ≡ 1
alone n first h e = grind arith

pub record IsNumeral (field : List ℕ) : Type 0 where
  pub digits : list_all is_ascii_digit field ≡ true
  pub some : 0 < length field
  pub no_zero : get_or field 0 0 ≡ 48 → length field ≡ 1

pub numeral_parts : (field : List ℕ) → is_numeral field ≡ true → IsNumeral field
numeral_parts field h =
    let both = and_parts (list_all is_ascii_digit field && not (eqb (length field) 0)) (eqb (length field) 1 || not (eqb (get_or field 0 0) 48)) h in
    let front = and_parts (list_all is_ascii_digit field) (not (eqb (length field) 0)) both.0 in
    record { digits = front.0; some = some_length (length field) front.1; no_zero = alone (length field) (get_or field 0 0) both.1 }

-- a numeral is a text
pub numeral_is_text : (field : List ℕ) → is_numeral field ≡ true → IsUtf8 field
numeral_is_text field h = IsUtf8-from_ascii field (digits_are_ascii field (numeral_parts field h).digits)

parsed_some : {E : Type 0} (n v : ℕ) (r : Result ℕ E) → 0 < n → OkIff r ((0 < n) × (v < 2 ^ 64)) v → SomeIff (result_ok r) (v < 2 ^ 64) v
parsed_some n v (Ok x) some h = (h.0.1, h.1)
parsed_some n v (Err e) some h = λ lt. h (some, lt)

-- what parsing a numeral gives
pub numeral_parses : {E : Type 0} (field : List ℕ) (r : Result ℕ E) (o : Option ℕ) → is_numeral field ≡ true → ParsesUnsigned 64 10 field r → o ≡ result_ok r
    → SomeIff o (digits_value 10 field < 2 ^ 64) (digits_value 10 field)
numeral_parses field r o h parses is =
    let parts = numeral_parts field h in
    rw is (parsed_some (length field) (digits_value 10 field) r parts.some (parse_digits own 64 field r parses parts.digits))

-- ---- a number's field is its decimal digits

if_some : (b : Bool) (v n : ℕ) → cond b (Some v) None ≡ Some n → (b ≡ true) × (v ≡ n)
if_some true v n e = (refl, cc)
if_some false v n e = absurd cc

pub number_takes : (field : List ℕ) (n : ℕ) → number_of field ≡ Some n → (field ≡ decimal n) × (n < 2 ^ 64)
unfolding number_of
number_takes field n e =
    let chosen = if_some (is_numeral field && ltb (digits_value 10 field) (2 ^ 64)) (digits_value 10 field) n e in
    let tests = and_parts (is_numeral field) (ltb (digits_value 10 field) (2 ^ 64)) chosen.0 in
    let parts = numeral_parts field tests.0 in
    let small : digits_value 10 field < 2 ^ 64 = ltb-true _ _ tests.1 in
    let same = decimal-digits_value own field parts.digits parts.some parts.no_zero small in
    (sym same ∙ ap decimal chosen.1, rw (← chosen.1) small)

is_numeral_by : (field : List ℕ) → AreDigits field → 0 < length field → (get_or field 0 0 ≡ 48 → length field ≡ 1) → is_numeral field ≡ true
is_numeral_by field digits some first = grind arith

only_zero : (n : ℕ) → n < 2 ^ 64 → get_or (decimal n) 0 0 ≡ 48 → length (decimal n) ≡ 1
only_zero n small e =
    elim (cases_lt 0 n) [
      | inl some ↦ absurd (omega (arith, first_decimal n some small))
      | inr none ↦
          let zero_is : n ≡ 0 = omega arith in
          ap length (decimal_digit n (omega arith))
    ]

pub number_again : (n : ℕ) → n < 2 ^ 64 → number_of (decimal n) ≡ Some n
unfolding number_of
number_again n small =
    let digits : AreDigits (decimal n) = digits_decimal own n small in
    let value : digits_value 10 (decimal n) ≡ n = digits_value-decimal own n small in
    let first = only_zero n small in
    let numeral = is_numeral_by (decimal n) digits (decimal_nonempty n small) first in
    rw (numeral, value, lt-ltb n (2 ^ 64) small) refl
