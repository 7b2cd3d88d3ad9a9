-- This project's own: the form of a line's fields, and the values that they say.
use Rattle.std.specs.Prelude.{ℕ, Bool, ◌&&◌, not, ◌==◌, ◌-◌, nat_le, IsTrue, if◌then◌else◌, List, [], ◌∷◌, ◌++◌, length, replicate, Option, Some, None, Result, Ok, Err}
use Rattle.std.specs.List.{list_all}
use Rattle.text_fields.specs.declared.fault.FieldFault.{FieldFault}
use Rattle.text_fields.specs.declared.fault.FieldFault.TheVariants as fault
use Rattle.text_fields.specs.declared.form.Rest.{Rest}
use Rattle.text_fields.specs.declared.form.Rest.TheVariants.{Nothing, Optional, Repeated}
use Rattle.text_fields.specs.declared.kind.Kind.{Kind}
use Rattle.text_fields.specs.declared.value.Value.{Value}
use Rattle.text_fields.specs.Fields.{Fits, field_of, field_value}
use Rattle.text_fields.specs.FormData.{Form}

-- whether so many fields may follow: none, at most one, or at least one
abbrev pub may_follow : Rest → ℕ → Bool
may_follow Nothing more = more == 0
may_follow (Optional kind) more = nat_le more 1
may_follow (Repeated kind) more = nat_le 1 more

-- the kind of what follows, where something may
abbrev pub rest_kind : Rest → Option Kind
rest_kind Nothing = None
rest_kind (Optional kind) = Some kind
rest_kind (Repeated kind) = Some kind

-- so many fields of a kind, where there is one
abbrev pub so_many : ℕ → Option Kind → List Kind
so_many more None = []
so_many more (Some kind) = replicate more kind

-- whether a form has so many fields
abbrev pub has_count : Form → ℕ → Bool
has_count form count = nat_le (length form.kinds) count && may_follow form.rest (count - length form.kinds)

-- the kinds of so many fields: the form's own, and then those that follow
abbrev pub kinds_for : Form → ℕ → List Kind
kinds_for form count = form.kinds ++ so_many (count - length form.kinds) (rest_kind form.rest)

-- a value and the values after it; of two faults the number's or name's comes before the digits'
abbrev pub with_first : Result Value FieldFault → Result (List Value) FieldFault → Result (List Value) FieldFault
with_first (Ok v) (Ok vs) = Ok (v ∷ vs)
with_first (Ok v) (Err why) = Err why
with_first (Err fault.Hex) (Err fault.Number) = Err fault.Number
with_first (Err why) others = Err why

-- the values that fields of these kinds say, kind by kind
unfoldable pub values_under : List Kind → List (List ℕ) → Result (List Value) FieldFault
values_under (kind ∷ kinds) (field ∷ fields) = with_first (field_value kind field) (values_under kinds fields)
values_under kinds fields = Ok []

-- a field without a byte, as between two spaces
abbrev pub is_empty : List ℕ → Bool
is_empty field = length field == 0

-- no field is empty, and there are as many as the form has
abbrev pub are_fields : Form → List (List ℕ) → Bool
are_fields form fields = list_all (λ field. not (is_empty field)) fields && has_count form (length fields)

-- the values of a line's fields by the form of its word, or the first of these faults over all of them: an empty field
-- or a wrong count; a number or a name; hexadecimal digits
abbrev pub values_of : Form → List (List ℕ) → Result (List Value) FieldFault
values_of form fields =
    if are_fields form fields then values_under (kinds_for form (length fields)) fields else Err fault.Fields

-- the fields that say values of these kinds
abbrev pub fields_under : List Kind → List Value → List (List ℕ)
fields_under (kind ∷ kinds) (v ∷ vs) = field_of kind v ∷ fields_under kinds vs
fields_under kinds vs = []

-- the fields that say values of a form
abbrev pub fields_for : Form → List Value → List (List ℕ)
fields_for form vs = fields_under (kinds_for form (length vs)) vs

-- values of these kinds, as many as there are kinds
abbrev pub FitKinds : List Kind → List Value → Type 0
FitKinds [] [] = Unit {0}
FitKinds (kind ∷ kinds) (v ∷ vs) = Fits kind v × FitKinds kinds vs
FitKinds kinds vs = ⊥

-- the values have the form
pub record FitForm (form : Form) (vs : List Value) : Type 0 where
  pub count : IsTrue (has_count form (length vs))
  pub each : FitKinds (kinds_for form (length vs)) vs
