-- This project's own, after the names of Linux's network devices: the names that a device may have.
use Rattle.std.specs.Prelude.{ℕ, Bool, ◌&&◌, ◌||◌, not, ◌==◌, nat_le, if◌then◌else◌, List, length, codes, Option, Some, None}
use Rattle.std.specs.List.{list_all}
use Rattle.std.specs.Str.{bytes_eq}

-- a letter, a digit, `_`, `-` or `.`
abbrev pub is_name_byte : ℕ → Bool
is_name_byte b =
    nat_le 97 b && nat_le b 122 || nat_le 65 b && nat_le b 90 || nat_le 48 b && nat_le b 57
    || b == 95 || b == 45 || b == 46

-- 1 to 15 such bytes, and not `-` alone
abbrev pub is_name : List ℕ → Bool
is_name bytes =
    list_all is_name_byte bytes && not (length bytes == 0) && nat_le (length bytes) 15
    && not (bytes_eq bytes (codes "-"))

-- the name, where it is one
abbrev pub name_of : List ℕ → Option (List ℕ)
name_of field = if is_name field then Some field else None
