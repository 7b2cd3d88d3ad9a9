-- This project's own: bytes and numbers as hexadecimal digits.
use Rattle.std.specs.Prelude.{ℕ, Bool, ◌&&◌, ◌||◌, not, ◌==◌, ◌*◌, ◌<◌, nat_le, if◌then◌else◌, List, length, Option, None}
use Rattle.std.specs.Int.{Width, byte_len, to_be_bytes, from_be_bytes}
use Rattle.std.specs.List.{list_all, AllByRecursion}
use Rattle.std.specs.Option.{option_map}
use Rattle.std.specs.Result.{result_ok}
use Rattle.hex.specs.Hex.{decode_of, encode_lower}

-- a digit or one of the letters `a` to `f`
abbrev pub is_lower_digit : ℕ → Bool
is_lower_digit c = nat_le 48 c && nat_le c 57 || nat_le 97 c && nat_le c 102

-- the bytes of an even number of lower-case digits, at least two
unfoldable pub bytes_of : List ℕ → Option (List ℕ)
bytes_of field = if list_all is_lower_digit field && not (length field == 0) then result_ok (decode_of field) else None

-- the same of so many digits
abbrev pub so_many_of : ℕ → List ℕ → Option (List ℕ)
so_many_of digits field = if length field == digits then bytes_of field else None

-- the digits of a number of this width as the number, the most significant first
abbrev pub hex_number_of : Width → List ℕ → Option ℕ
hex_number_of w field = option_map (from_be_bytes w) (so_many_of (2 * byte_len w) field)

-- a number as the digits of its width, the most significant first
abbrev pub hex_digits : Width → ℕ → List ℕ
hex_digits w n = encode_lower (to_be_bytes w n)

-- at least one byte
abbrev pub AreBytes : List ℕ → Type 0
AreBytes bytes = (0 < length bytes) × AllByRecursion (λ b. b < 256) bytes
