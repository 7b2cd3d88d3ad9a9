-- This project's own: the fields and lines of which scenarios, traces and reports are made.
use Rattle.std.specs.Prelude.{ℕ, List, [], ◌∷◌, ◌++◌}
use Rattle.std.specs.List.{join_with_byte, flat_map}
use Rattle.std.specs.Fmt.{decimal}
use Rattle.std.specs.Int.{w16, to_be_bytes}
use Rattle.hex.specs.Hex.{encode_lower}
use Rattle.tap_frame.specs.declared.name.Name.{Name}

-- a line: its fields with one space between them, and LF
abbrev pub line : List (List ℕ) → List ℕ
line fields = join_with_byte 32 fields ++ 10 ∷ []

-- a text: its lines, one after another
abbrev pub text : List (List (List ℕ)) → List ℕ
text lines = flat_map line lines

-- HEX4: four hexadecimal digits, the most significant first
abbrev pub hex4 : ℕ → List ℕ
hex4 n = encode_lower (to_be_bytes w16 n)

-- the name of a frame: ACTOR.TURN.PART
abbrev pub frame_name : Name → List ℕ
frame_name n = decimal n.actor ++ 46 ∷ decimal n.turn ++ 46 ∷ decimal n.part
