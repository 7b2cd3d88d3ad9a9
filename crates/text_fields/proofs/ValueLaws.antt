-- Values: what is written is read again, and what is read is written again.
use Rattle.std.proofs.Common.{◌≡◌, ℕ, zero, suc, lit<, ◌*◌, ◌^◌, ◌<◌, ◌≤◌, Bool, true, false, cond, ◌&&◌, not, eqb, leb, List, length, Option, Some, None, Ok, refl, sym, ap, subst, ◌∙◌, arith}
use Rattle.std.specs.Char.{is_ascii_digit}
use Rattle.std.specs.Fmt.{decimal}
use Rattle.std.specs.Int.{Width, w16, w32, w64, byte_len, to_be_bytes, from_be_bytes, byte_at, bytes_high_first}
use Rattle.std.specs.List.{list_all}
use Rattle.std.specs.Option.{option_map}
use Rattle.std.specs.Str.{bytes_eq}
use Rattle.std.proofs.lemmas.Bool.{and_parts, and_from, le-leb, leb-true, eqb-true}
use Rattle.std.proofs.lemmas.Fmt.{digits_decimal, decimal_nonempty}
use Rattle.std.proofs.lemmas.Nat.{be_bytes_2, be_bytes_4, be_bytes_8, from_be_bytes-to_be_bytes_2, from_be_bytes-to_be_bytes_4, from_be_bytes-to_be_bytes_8}
use Rattle.std.proofs.lemmas.Slice.Eq.{bytes_eq-Decides}
use Rattle.hex.specs.Hex.{IsBytes, encode_lower, lower_digits}
use Rattle.hex.proofs.HexLemmas.{length-encode_with}
use Rattle.text_fields.specs.declared.fault.FieldFault.{FieldFault}
use Rattle.text_fields.specs.declared.kind.Digits.{Digits}
use Rattle.text_fields.specs.declared.kind.Digits.TheVariants.{Four, Eight, Sixteen}
use Rattle.text_fields.specs.declared.kind.Kind.TheVariants.{Plain, OrDash}
use Rattle.text_fields.specs.declared.kind.Shape.{Shape}
use Rattle.text_fields.specs.declared.kind.Shape.TheVariants.{Number, Name, HexNumber, HexBytes, Hex}
use Rattle.text_fields.specs.declared.value.Value.{Value}
use Rattle.text_fields.specs.declared.value.Value.TheVariants as value
use Rattle.text_fields.specs.Fields.{Fits, FitsShape, dash, fault_in, field_of, or_fault, value_in, value_of, width_of}
use Rattle.text_fields.specs.Hexadecimal.{bytes_of, hex_digits, hex_number_of, is_lower_digit, so_many_of}
use Rattle.text_fields.specs.Laws.{FieldsAreWrittenAgain, ValuesAreReadAgain, ValuesMakeFields}
use Rattle.text_fields.specs.Lines.{is_field, is_field_byte}
use Rattle.text_fields.specs.Names.{is_name, is_name_byte, name_of}
use Rattle.text_fields.specs.Numbers.{in_range, number_of}
use Rattle.text_fields.proofs.DigitLemmas.{Small, bytes_again, bytes_at, bytes_take, guard_some, hex_is_lower, map_some, weaken}
use Rattle.text_fields.proofs.NameLemmas.{name_parts}
use Rattle.text_fields.proofs.Numerals.{number_again, number_takes, own}

-- ---- numbers and names

in_range_some : (least most n : ℕ) → least ≤ n → n ≤ most → in_range least most (Some n) ≡ Some n
in_range_some least most n low high = rw (le-leb least n low, le-leb n most high) refl

pub record InRange (least most n : ℕ) (o : Option ℕ) : Type 0 where
  pub is : o ≡ Some n
  pub low : least ≤ n
  pub high : n ≤ most

in_range_takes : (least most : ℕ) (o : Option ℕ) (n : ℕ) → in_range least most o ≡ Some n → InRange least most n o
in_range_takes least most None n e = absurd cc
in_range_takes least most (Some m) n e =
    let g = guard_some (leb least m && leb m most) (Some m) n e in
    let p = and_parts (leb least m) (leb m most) g.0 in
    let same : m ≡ n = cc in
    record { is = g.1; low = subst (λ (k : ℕ). least ≤ k) same (leb-true least m p.0); high = subst (λ (k : ℕ). k ≤ most) same (leb-true m most p.1) }

-- ---- numbers as digits

same_count : (n d : ℕ) → n ≡ d → eqb n d ≡ true
same_count n d h = grind arith

so_many_some : (digits : ℕ) (field bytes : List ℕ) → so_many_of digits field ≡ Some bytes → (length field ≡ digits) × (bytes_of field ≡ Some bytes)
so_many_some digits field bytes e =
    let g = guard_some (eqb (length field) digits) (bytes_of field) bytes e in
    (eqb-true (length field) digits g.0, g.1)

so_many_again : (digits : ℕ) (field : List ℕ) → length field ≡ digits → so_many_of digits field ≡ bytes_of field
so_many_again digits field e = rw (same_count (length field) digits e) refl

hex_length : (bytes : List ℕ) → length (encode_lower bytes) ≡ 2 * length bytes
hex_length bytes = length-encode_with lower_digits bytes

-- the bytes of a number
byte_small : (k n : ℕ) → byte_at k n < 256
byte_small zero n = omega arith
byte_small (suc k) n = omega arith

bytes_small : (k n : ℕ) → Small (bytes_high_first k n)
bytes_small zero n = tt
bytes_small (suc k) n = (byte_small k n, bytes_small k n)

bytes_count : (k n : ℕ) → length (bytes_high_first k n) ≡ k
bytes_count zero n = refl
bytes_count (suc k) n = ap suc (bytes_count k n)

-- what digits of this width say, and are written for
pub record IsWidth (w : Width) : Type 0 where
  pub some : 0 < byte_len w
  pub again : (n : ℕ) → n < 2 ^ (8 * byte_len w) → from_be_bytes w (to_be_bytes w n) ≡ n
  pub below : (bytes : List ℕ) → IsBytes bytes → from_be_bytes w bytes < 2 ^ (8 * byte_len w)
  pub back : (bytes : List ℕ) → length bytes ≡ byte_len w → IsBytes bytes → to_be_bytes w (from_be_bytes w bytes) ≡ bytes

four : IsWidth w16
four = record {
  some = lit< tt;
  again = from_be_bytes-to_be_bytes_2;
  below = λ bytes fits. omega (arith, fits 0, fits 1);
  back = λ bytes count fits. be_bytes_2 bytes (from_be_bytes w16 bytes) count fits refl;
}

eight : IsWidth w32
eight = record {
  some = lit< tt;
  again = from_be_bytes-to_be_bytes_4;
  below = λ bytes fits. omega (arith, fits 0, fits 1, fits 2, fits 3);
  back = λ bytes count fits. be_bytes_4 bytes (from_be_bytes w32 bytes) count fits refl;
}

sixteen : IsWidth w64
sixteen = record {
  some = lit< tt;
  again = from_be_bytes-to_be_bytes_8;
  below = λ bytes fits. omega (arith, fits 0, fits 1, fits 2, fits 3, fits 4, fits 5, fits 6, fits 7);
  back = λ bytes count fits. be_bytes_8 bytes (from_be_bytes w64 bytes) count fits refl;
}

is_width : (digits : Digits) → IsWidth (width_of digits)
is_width Four = four
is_width Eight = eight
is_width Sixteen = sixteen

hex_number_again : (w : Width) → IsWidth w → (n : ℕ) → n < 2 ^ (8 * byte_len w) → hex_number_of w (hex_digits w n) ≡ Some n
hex_number_again w is n small =
    let bytes = to_be_bytes w n in
    let each : Small bytes = bytes_small (byte_len w) n in
    let count : length bytes ≡ byte_len w = bytes_count (byte_len w) n in
    let some : 0 < length bytes = subst (λ (k : ℕ). 0 < k) (sym count) is.some in
    let digits : length (encode_lower bytes) ≡ 2 * byte_len w = hex_length bytes ∙ ap (λ (k : ℕ). 2 * k) count in
    ap (option_map (from_be_bytes w)) (so_many_again (2 * byte_len w) (encode_lower bytes) digits ∙ bytes_again bytes some each) ∙ ap Some (is.again n small)

half : (n m : ℕ) → 2 * n ≡ 2 * m → n ≡ m
half n m h = omega arith

hex_number_takes : (w : Width) → IsWidth w → (field : List ℕ) (n : ℕ) → hex_number_of w field ≡ Some n → (n < 2 ^ (8 * byte_len w)) × (hex_digits w n ≡ field)
hex_number_takes w is field n e =
    let m = map_some (from_be_bytes w) (so_many_of (2 * byte_len w) field) n e in
    let read = so_many_some (2 * byte_len w) field m.0 m.1 in
    let h = bytes_take field m.0 read.1 in
    let fits = bytes_at m.0 h.each in
    let count : length m.0 ≡ byte_len w = half (length m.0) (byte_len w) (sym (hex_length m.0) ∙ ap length (sym h.written) ∙ read.0) in (
      subst (λ (k : ℕ). k < 2 ^ (8 * byte_len w)) m.2 (is.below m.0 fits),
      ap encode_lower (ap (to_be_bytes w) (sym m.2) ∙ is.back m.0 count fits) ∙ sym h.written,
    )

-- ---- a value of a shape is read again

value_again : (shape : Shape) (v : Value) → FitsShape shape v → value_in shape (field_of (Plain shape) v) ≡ Some v
value_again (Number least most) value.None h = absurd h
value_again (Number least most) (value.Number n) h =
    ap (λ (o : Option ℕ). option_map value.Number (in_range least most o)) (number_again n h.2) ∙ ap (option_map value.Number) (in_range_some least most n h.0 h.1)
value_again (Number least most) (value.Name name) h = absurd h
value_again (Number least most) (value.Bytes bytes) h = absurd h
value_again Name value.None h = absurd h
value_again Name (value.Number n) h = absurd h
value_again Name (value.Name name) h = rw h refl
value_again Name (value.Bytes bytes) h = absurd h
value_again (HexNumber digits) value.None h = absurd h
value_again (HexNumber digits) (value.Number n) h = ap (option_map value.Number) (hex_number_again (width_of digits) (is_width digits) n h)
value_again (HexNumber digits) (value.Name name) h = absurd h
value_again (HexNumber digits) (value.Bytes bytes) h = absurd h
value_again (HexBytes digits) value.None h = absurd h
value_again (HexBytes digits) (value.Number n) h = absurd h
value_again (HexBytes digits) (value.Name name) h = absurd h
value_again (HexBytes digits) (value.Bytes bytes) h =
    ap (option_map value.Bytes) (so_many_again digits (encode_lower bytes) (hex_length bytes ∙ h.0) ∙ bytes_again bytes h.1.0 h.1.1)
value_again Hex value.None h = absurd h
value_again Hex (value.Number n) h = absurd h
value_again Hex (value.Name name) h = absurd h
value_again Hex (value.Bytes bytes) h = ap (option_map value.Bytes) (bytes_again bytes h.0 h.1)

-- ---- what is read of a shape

pub record Reads (shape : Shape) (field : List ℕ) (v : Value) : Type 0 where
  pub fits : FitsShape shape v
  pub written : field_of (Plain shape) v ≡ field

along : (shape : Shape) (field : List ℕ) (v w : Value) → v ≡ w → Reads shape field v → Reads shape field w
along shape field v w e h = subst (λ (x : Value). Reads shape field x) e h

value_takes : (shape : Shape) (field : List ℕ) (v : Value) → value_in shape field ≡ Some v → Reads shape field v
value_takes (Number least most) field v e =
    let m = map_some value.Number (in_range least most (number_of field)) v e in
    let r = in_range_takes least most (number_of field) m.0 m.1 in
    let n = number_takes field m.0 r.is in
    along (Number least most) field (value.Number m.0) v m.2 (record { fits = (r.low, r.high, n.1); written = sym n.0 })
value_takes Name field v e =
    let m = map_some value.Name (name_of field) v e in
    let g = guard_some (is_name field) (Some field) m.0 m.1 in
    let same : field ≡ m.0 = cc in
    along Name field (value.Name m.0) v m.2 (record { fits = subst (λ (x : List ℕ). is_name x ≡ true) same g.0; written = sym same })
value_takes (HexNumber digits) field v e =
    let m = map_some value.Number (hex_number_of (width_of digits) field) v e in
    let h = hex_number_takes (width_of digits) (is_width digits) field m.0 m.1 in
    along (HexNumber digits) field (value.Number m.0) v m.2 (record { fits = h.0; written = h.1 })
value_takes (HexBytes digits) field v e =
    let m = map_some value.Bytes (so_many_of digits field) v e in
    let s = so_many_some digits field m.0 m.1 in
    let h = bytes_take field m.0 s.1 in
    let count : 2 * length m.0 ≡ digits = sym (hex_length m.0) ∙ ap length (sym h.written) ∙ s.0 in
    along (HexBytes digits) field (value.Bytes m.0) v m.2 (record { fits = (count, (h.some, h.each)); written = sym h.written })
value_takes Hex field v e =
    let m = map_some value.Bytes (bytes_of field) v e in
    let h = bytes_take field m.0 m.1 in
    along Hex field (value.Bytes m.0) v m.2 (record { fits = (h.some, h.each); written = sym h.written })

-- ---- `-` has no shape

no_digits_in_dash : bytes_of dash ≡ None
unfolding bytes_of
no_digits_in_dash = refl

none_either : (b : Bool) (o : Option (List ℕ)) → o ≡ None → cond b o None ≡ None
none_either true o e = e
none_either false o e = refl

dash_has_none : (shape : Shape) → value_in shape dash ≡ None
unfolding number_of
dash_has_none (Number least most) = refl
dash_has_none Name = refl
dash_has_none (HexNumber digits) =
    ap (λ (o : Option (List ℕ)). option_map value.Number (option_map (from_be_bytes (width_of digits)) o)) (none_either (eqb 1 (2 * byte_len (width_of digits))) (bytes_of dash) no_digits_in_dash)
dash_has_none (HexBytes digits) = ap (λ (o : Option (List ℕ)). option_map value.Bytes o) (none_either (eqb 1 digits) (bytes_of dash) no_digits_in_dash)
dash_has_none Hex = ap (option_map value.Bytes) no_digits_in_dash

same_bytes : (xs ys : List ℕ) → bytes_eq xs ys ≡ true → xs ≡ ys
same_bytes xs ys h = (bytes_eq-Decides xs ys).0 h

by_dash : (b : Bool) (field : List ℕ) (shape : Shape) (v : Value) → bytes_eq field dash ≡ b → value_in shape field ≡ Some v → cond b (Some value.None) (value_in shape field) ≡ Some v
by_dash false field shape v e h = h
by_dash true field shape v e h =
    let none : value_in shape field ≡ None = ap (value_in shape) (same_bytes field dash e) ∙ dash_has_none shape in
    absurd cc

-- a field that has the shape has the kind
or_dash_takes : (shape : Shape) (field : List ℕ) (v : Value) → value_in shape field ≡ Some v → value_of (OrDash shape) field ≡ Some v
or_dash_takes shape field v h = by_dash (bytes_eq field dash) field shape v refl h

-- ---- values are read again

same_fields : (shape : Shape) (v : Value) → field_of (OrDash shape) v ≡ field_of (Plain shape) v
same_fields shape value.None = refl
same_fields shape (value.Number n) = refl
same_fields shape (value.Name name) = refl
same_fields shape (value.Bytes bytes) = refl

told : (why : FieldFault) (o : Option Value) (v : Value) → o ≡ Some v → or_fault why o ≡ Ok v
told why o v e = ap (or_fault why) e

or_dash_again : (shape : Shape) (v : Value) → FitsShape shape v → value_of (OrDash shape) (field_of (OrDash shape) v) ≡ Some v
or_dash_again shape v h = or_dash_takes shape (field_of (OrDash shape) v) v (ap (value_in shape) (same_fields shape v) ∙ value_again shape v h)

pub values_read : ValuesAreReadAgain
values_read (Plain shape) v h = told (fault_in shape) (value_in shape (field_of (Plain shape) v)) v (value_again shape v h)
values_read (OrDash shape) value.None h = refl
values_read (OrDash shape) (value.Number n) h = told (fault_in shape) _ (value.Number n) (or_dash_again shape (value.Number n) h)
values_read (OrDash shape) (value.Name name) h = told (fault_in shape) _ (value.Name name) (or_dash_again shape (value.Name name) h)
values_read (OrDash shape) (value.Bytes bytes) h = told (fault_in shape) _ (value.Bytes bytes) (or_dash_again shape (value.Bytes bytes) h)

-- ---- fields are written again

untold : (why : FieldFault) (o : Option Value) (v : Value) → or_fault why o ≡ Ok v → o ≡ Some v
untold why None v e = absurd cc
untold why (Some w) v e = cc

fits_or_dash : (shape : Shape) (v : Value) → FitsShape shape v → Fits (OrDash shape) v
fits_or_dash shape value.None h = tt
fits_or_dash shape (value.Number n) h = h
fits_or_dash shape (value.Name name) h = h
fits_or_dash shape (value.Bytes bytes) h = h

or_dash_written : (b : Bool) (field : List ℕ) (shape : Shape) (v : Value) → bytes_eq field dash ≡ b → cond b (Some value.None) (value_in shape field) ≡ Some v
    → Fits (OrDash shape) v × (field_of (OrDash shape) v ≡ field)
or_dash_written true field shape v e h =
    let none : value.None ≡ v = cc in
    subst (λ (w : Value). Fits (OrDash shape) w × (field_of (OrDash shape) w ≡ field)) none (tt, sym (same_bytes field dash e))
or_dash_written false field shape v e h =
    let r = value_takes shape field v h in
    (fits_or_dash shape v r.fits, same_fields shape v ∙ r.written)

pub fields_written : FieldsAreWrittenAgain
fields_written (Plain shape) field v e =
    let r = value_takes shape field v (untold (fault_in shape) (value_in shape field) v e) in
    (r.fits, r.written)
fields_written (OrDash shape) field v e = or_dash_written (bytes_eq field dash) field shape v refl (untold (fault_in shape) (value_of (OrDash shape) field) v e)

-- ---- values make fields

digit_in_field : (c : ℕ) → is_ascii_digit c ≡ true → is_field_byte c ≡ true
digit_in_field c h = grind arith

lower_in_field : (c : ℕ) → is_lower_digit c ≡ true → is_field_byte c ≡ true
lower_in_field c h = grind arith

name_in_field : (c : ℕ) → is_name_byte c ≡ true → is_field_byte c ≡ true
name_in_field c h = grind arith

not_empty : (n : ℕ) → 0 < n → not (eqb n 0) ≡ true
not_empty n h = grind arith

decimal_field : (n : ℕ) → n < 2 ^ 64 → is_field (decimal n) ≡ true
decimal_field n small =
    and_from (list_all is_field_byte (decimal n)) (not (eqb (length (decimal n)) 0)) (weaken is_ascii_digit is_field_byte digit_in_field (decimal n) (digits_decimal own n small))
    (not_empty (length (decimal n)) (decimal_nonempty n small))

hex_field : (bytes : List ℕ) → 0 < length bytes → Small bytes → is_field (encode_lower bytes) ≡ true
hex_field bytes some each =
    let long : 0 < length (encode_lower bytes) = let count = hex_length bytes in omega arith in
    and_from (list_all is_field_byte (encode_lower bytes)) (not (eqb (length (encode_lower bytes)) 0)) (weaken is_lower_digit is_field_byte lower_in_field (encode_lower bytes) (hex_is_lower bytes each))
    (not_empty (length (encode_lower bytes)) long)

name_field : (name : List ℕ) → is_name name ≡ true → is_field name ≡ true
name_field name h =
    let parts = name_parts name h in
    and_from (list_all is_field_byte name) (not (eqb (length name) 0)) (weaken is_name_byte is_field_byte name_in_field name parts.0) parts.1

number_digits_field : (digits : Digits) (n : ℕ) → is_field (hex_digits (width_of digits) n) ≡ true
number_digits_field digits n =
    let w = width_of digits in
    hex_field (to_be_bytes w n) (subst (λ (k : ℕ). 0 < k) (sym (bytes_count (byte_len w) n)) (is_width digits).some) (bytes_small (byte_len w) n)

shape_fields : (shape : Shape) (v : Value) → FitsShape shape v → is_field (field_of (Plain shape) v) ≡ true
shape_fields shape value.None h = refl
shape_fields (Number least most) (value.Number n) h = decimal_field n h.2
shape_fields Name (value.Number n) h = absurd h
shape_fields (HexNumber digits) (value.Number n) h = number_digits_field digits n
shape_fields (HexBytes digits) (value.Number n) h = absurd h
shape_fields Hex (value.Number n) h = absurd h
shape_fields (Number least most) (value.Name name) h = absurd h
shape_fields Name (value.Name name) h = name_field name h
shape_fields (HexNumber digits) (value.Name name) h = absurd h
shape_fields (HexBytes digits) (value.Name name) h = absurd h
shape_fields Hex (value.Name name) h = absurd h
shape_fields (Number least most) (value.Bytes bytes) h = absurd h
shape_fields Name (value.Bytes bytes) h = absurd h
shape_fields (HexNumber digits) (value.Bytes bytes) h = absurd h
shape_fields (HexBytes digits) (value.Bytes bytes) h = hex_field bytes h.1.0 h.1.1
shape_fields Hex (value.Bytes bytes) h = hex_field bytes h.0 h.1

pub values_fields : ValuesMakeFields
values_fields (Plain shape) v h = shape_fields shape v h
values_fields (OrDash shape) value.None h = refl
values_fields (OrDash shape) (value.Number n) h = shape_fields shape (value.Number n) h
values_fields (OrDash shape) (value.Name name) h = shape_fields shape (value.Name name) h
values_fields (OrDash shape) (value.Bytes bytes) h = shape_fields shape (value.Bytes bytes) h
