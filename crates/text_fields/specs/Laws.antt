-- This project's own: what is written is read again, and what is read is written again.
use Rattle.std.specs.Prelude.{◌≡◌, ℕ, IsTrue, List, ◌∷◌, ◌++◌, Ok}
use Rattle.std.specs.List.{list_all}
use Rattle.text_fields.specs.declared.kind.Kind.{Kind}
use Rattle.text_fields.specs.declared.value.Value.{Value}
use Rattle.text_fields.specs.Fields.{Fits, field_of, field_value}
use Rattle.text_fields.specs.FormData.{Form}
use Rattle.text_fields.specs.Forms.{FitForm, fields_for, values_of}
use Rattle.text_fields.specs.Lines.{fields_of, is_field, is_text_line, line_of, lines_of, spaced, text_of}

-- ---- lines

-- the lines of a text are those of which it was made
abbrev pub LinesAreCutAgain : Type 0
LinesAreCutAgain = (lines : List (List ℕ)) → IsTrue (list_all is_text_line lines) → lines_of (text_of lines) ≡ lines

-- the fields of a line are those of which it was made
abbrev pub FieldsAreCutAgain : Type 0
FieldsAreCutAgain = (first : List ℕ) (others : List (List ℕ)) → IsTrue (list_all is_field (first ∷ others))
    → fields_of (line_of (first ∷ others)) ≡ first ∷ others

-- a line is made of its fields
abbrev pub LinesAreJoinedAgain : Type 0
LinesAreJoinedAgain = (line : List ℕ) → line_of (fields_of line) ≡ line

-- a line is its first field, and then the others, each behind a space
abbrev pub WordsAreSpaced : Type 0
WordsAreSpaced = (word : List ℕ) (fields : List (List ℕ)) → line_of (word ∷ fields) ≡ word ++ spaced fields

-- a line of fields has the bytes of a line
abbrev pub FieldsMakeLines : Type 0
FieldsMakeLines = (fields : List (List ℕ)) → IsTrue (list_all is_field fields) → IsTrue (is_text_line (line_of fields))

-- ---- values

-- what is written for a value of a kind is read as that value
abbrev pub ValuesAreReadAgain : Type 0
ValuesAreReadAgain = (kind : Kind) (v : Value) → Fits kind v → field_value kind (field_of kind v) ≡ Ok v

-- what is read of a field is a value of the kind, for which the field is written
abbrev pub FieldsAreWrittenAgain : Type 0
FieldsAreWrittenAgain = (kind : Kind) (field : List ℕ) (v : Value) → field_value kind field ≡ Ok v
    → Fits kind v × (field_of kind v ≡ field)

-- what is written for a value of a kind is a field
abbrev pub ValuesMakeFields : Type 0
ValuesMakeFields = (kind : Kind) (v : Value) → Fits kind v → IsTrue (is_field (field_of kind v))

-- ---- forms

-- what is written for values of a form is read as these values
abbrev pub FormsAreReadAgain : Type 0
FormsAreReadAgain = (form : Form) (vs : List Value) → FitForm form vs → values_of form (fields_for form vs) ≡ Ok vs

-- what is read of fields are values of the form, for which these fields are written
abbrev pub FormsAreWrittenAgain : Type 0
FormsAreWrittenAgain = (form : Form) (fields : List (List ℕ)) (vs : List Value) → values_of form fields ≡ Ok vs
    → FitForm form vs × (fields_for form vs ≡ fields)

-- what is written for values of a form are fields
abbrev pub FormsMakeFields : Type 0
FormsMakeFields = (form : Form) (vs : List Value) → FitForm form vs → IsTrue (list_all is_field (fields_for form vs))
