-- This project's own: the lines of a text and the fields of a line.
use Rattle.std.specs.Prelude.{ℕ, Bool, ◌&&◌, not, ◌==◌, nat_le, List, [], ◌∷◌, ◌++◌, length, Option, Some, None}
use denote.Ref.{Bor}
use Rattle.std.specs.List.{flat_map, join_with_byte, list_all, slice_split}

-- the parts of a text but for a last one that is empty
abbrev pub but_empty_last : List (List ℕ) → List (List ℕ)
but_empty_last [] = []
but_empty_last ([] ∷ []) = []
but_empty_last (part ∷ parts) = part ∷ but_empty_last parts

-- the lines of a text: its parts between LFs, and a last part without LF where it isn't empty
abbrev pub lines_of : List ℕ → List (List ℕ)
lines_of bytes = but_empty_last (slice_split (λ b. b == 10) bytes)

-- the fields of a line, with one space between two of them; so two spaces in a row give an empty field
abbrev pub fields_of : List ℕ → List (List ℕ)
fields_of line = slice_split (λ b. b == 32) line

-- the fields of the rest of a line, where there is a rest
abbrev pub fields_left : Option (Bor (List ℕ)) → List (List ℕ)
fields_left None = []
fields_left (Some rest) = fields_of rest.now

-- the line of some fields
abbrev pub line_of : List (List ℕ) → List ℕ
line_of fields = join_with_byte 32 fields

-- fields, each behind a space
abbrev pub spaced : List (List ℕ) → List ℕ
spaced fields = flat_map (λ field. 32 ∷ field) fields

-- a line with its LF
abbrev pub ended : List ℕ → List ℕ
ended line = line ++ 10 ∷ []

-- the text of some lines
abbrev pub text_of : List (List ℕ) → List ℕ
text_of lines = flat_map ended lines

-- the bytes that a line may have: 0x20 to 0x7e
abbrev pub is_text_byte : ℕ → Bool
is_text_byte b = nat_le 32 b && nat_le b 126

-- a line has no other bytes
abbrev pub is_text_line : List ℕ → Bool
is_text_line line = list_all is_text_byte line

-- such a byte, but no space
abbrev pub is_field_byte : ℕ → Bool
is_field_byte b = nat_le 33 b && nat_le b 126

-- a field that isn't empty
abbrev pub is_field : List ℕ → Bool
is_field field = list_all is_field_byte field && not (length field == 0)
