-- This project's own: decimal numbers.
use Rattle.std.specs.Prelude.{ℕ, Bool, ◌&&◌, ◌||◌, not, ◌==◌, ◌^◌, nat_lt, nat_le, if◌then◌else◌, List, length, slice_index, Option, Some, None}
use Rattle.std.specs.Char.{is_ascii_digit}
use Rattle.std.specs.List.{list_all}
use Rattle.std.specs.Str.Parse.{digits_value}

-- decimal digits without a leading zero
abbrev pub is_numeral : List ℕ → Bool
is_numeral field =
    list_all is_ascii_digit field && not (length field == 0) && (length field == 1 || not (slice_index field 0 == 48))

-- a decimal number below 2^64, without sign or leading zero
unfoldable pub number_of : List ℕ → Option ℕ
number_of field =
    if is_numeral field && nat_lt (digits_value 10 field) (2 ^ 64) then Some (digits_value 10 field) else None

-- the number, where it is in the range
abbrev pub in_range : ℕ → ℕ → Option ℕ → Option ℕ
in_range least most None = None
in_range least most (Some n) = if nat_le least n && nat_le n most then Some n else None
