-- This project's own: how the fields of a line are read, one after another, and what a single field says.
use Rattle.std.specs.Prelude.{ℕ, Bool, ◌==◌, if◌then◌else◌, List, [], ◌∷◌, Option, Some, None}
use Rattle.std.specs.Int.{w16, w32}
use Rattle.std.specs.List.{join_with_byte, slice_split}
use Rattle.std.specs.Option.{option_map}
use Rattle.std.specs.Str.{bytes_eq}
use Rattle.tap_frame.specs.declared.name.Name.{Name}
use Rattle.text_fields.specs.Fields.{dash}
use Rattle.text_fields.specs.Hexadecimal.{bytes_of, hex_number_of}
use Rattle.text_fields.specs.Numbers.{in_range, number_of}
use Rattle.trace_causes.specs.Words.{flag_of}
use Rattle.tap_ground.specs.Options.{◌>>=◌}

-- the first field, read so, and the fields behind it
abbrev pub first_by : {A : Type 0} → (List ℕ → Option A) → List (List ℕ) → Option (A × List (List ℕ))
first_by read [] = None
first_by read (field ∷ behind) = option_map (λ a. (a, behind)) (read field)

-- no field is left
abbrev pub ended : List (List ℕ) → Option (Unit {0})
ended [] = Some tt
ended (field ∷ behind) = None

-- ---- single fields

-- a decimal number of at most so much
unfoldable pub number_to : ℕ → List ℕ → Option ℕ
number_to most field = in_range 0 most (number_of field)

abbrev pub cut_parts : ℕ → List (List ℕ) → Option (List ℕ × List ℕ)
cut_parts at (part ∷ next ∷ parts) = Some (part, join_with_byte at (next ∷ parts))
cut_parts at parts = None

-- what stands before the first of these bytes, and what behind it
unfoldable pub cut : ℕ → List ℕ → Option (List ℕ × List ℕ)
cut at field = cut_parts at (slice_split (λ b. b == at) field)

-- ACTOR.TURN.PART
unfoldable pub name_of : List ℕ → Option Name
name_of field = do
  actor ← cut 46 field
  turn ← cut 46 actor.1
  a ← number_to 65535 actor.0
  t ← number_to 4294967295 turn.0
  p ← number_to 65535 turn.1
  Some (record { actor = a; turn = t; part = p })

-- the name of a frame, or `-`
unfoldable pub name_or_dash_of : List ℕ → Option (Option Name)
name_or_dash_of field = if bytes_eq field dash then Some None else option_map Some (name_of field)

-- a number of 16 bits, or `-`
unfoldable pub number_or_dash_of : List ℕ → Option (Option ℕ)
number_or_dash_of field = if bytes_eq field dash then Some None else option_map Some (number_to 65535 field)

-- ID:LEN
unfoldable pub harvested_of : List ℕ → Option (ℕ × ℕ)
harvested_of field = do
  parts ← cut 58 field
  id ← number_to 4294967295 parts.0
  len ← number_to 4294967295 parts.1
  Some (id, len)

-- bytes, of which there may be none
abbrev pub bytes_or_none : List ℕ → Option (List ℕ)
bytes_or_none [] = Some []
bytes_or_none (digit ∷ digits) = bytes_of (digit ∷ digits)

-- ---- the first of several fields

abbrev pub number8 : List (List ℕ) → Option (ℕ × List (List ℕ))
number8 fields = first_by (number_to 255) fields

abbrev pub number16 : List (List ℕ) → Option (ℕ × List (List ℕ))
number16 fields = first_by (number_to 65535) fields

abbrev pub number32 : List (List ℕ) → Option (ℕ × List (List ℕ))
number32 fields = first_by (number_to 4294967295) fields

abbrev pub number64 : List (List ℕ) → Option (ℕ × List (List ℕ))
number64 fields = first_by (number_to 18446744073709551615) fields

abbrev pub flag_first : List (List ℕ) → Option (Bool × List (List ℕ))
flag_first fields = first_by flag_of fields

abbrev pub name_first : List (List ℕ) → Option (Name × List (List ℕ))
name_first fields = first_by name_of fields

-- four and eight hexadecimal digits
abbrev pub digits4 : List (List ℕ) → Option (ℕ × List (List ℕ))
digits4 fields = first_by (hex_number_of w16) fields

abbrev pub digits8 : List (List ℕ) → Option (ℕ × List (List ℕ))
digits8 fields = first_by (hex_number_of w32) fields
