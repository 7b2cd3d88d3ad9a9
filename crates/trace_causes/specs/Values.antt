-- This project's own: how single values are written.
use Rattle.std.specs.Prelude.{ℕ, List, ◌∷◌, ◌++◌, Option, Some, None}
use Rattle.std.specs.Fmt.{decimal}
use Rattle.std.specs.Int.{w32, to_be_bytes}
use Rattle.hex.specs.Hex.{encode_lower}
use Rattle.tap_frame.specs.declared.name.Name.{Name}
use Rattle.text_fields.specs.Fields.{dash}
use Rattle.scen_words.specs.Field.{frame_name}

-- HASH8 and FNV: eight hexadecimal digits, the most significant first
abbrev pub hex8 : ℕ → List ℕ
hex8 n = encode_lower (to_be_bytes w32 n)

-- a number, or `-` for none
abbrev pub number_or_dash : Option ℕ → List ℕ
number_or_dash None = dash
number_or_dash (Some n) = decimal n

-- the name of a frame, or `-` for none
abbrev pub name_or_dash : Option Name → List ℕ
name_or_dash None = dash
name_or_dash (Some name) = frame_name name

-- `ID:LEN`: a chain that came back, with so many bytes written
abbrev pub harvested : ℕ × ℕ → List ℕ
harvested e = decimal e.0 ++ 58 ∷ decimal e.1
