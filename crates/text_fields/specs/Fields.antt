-- This project's own: what a field of each kind may be, which value it says, and how a value is written.
use Rattle.std.specs.Prelude.{◌≡◌, ℕ, ◌*◌, ◌^◌, ◌<◌, ◌≤◌, IsTrue, if◌then◌else◌, List, length, codes, Option, Some, None, Result, Ok, Err}
use Rattle.std.specs.Fmt.{decimal}
use Rattle.std.specs.Int.{Width, w16, w32, w64, byte_len}
use Rattle.std.specs.Option.{option_map}
use Rattle.std.specs.Str.{bytes_eq}
use Rattle.hex.specs.Hex.{encode_lower}
use Rattle.text_fields.specs.declared.fault.FieldFault.{FieldFault}
use Rattle.text_fields.specs.declared.fault.FieldFault.TheVariants as fault
use Rattle.text_fields.specs.declared.kind.Digits.{Digits}
use Rattle.text_fields.specs.declared.kind.Digits.TheVariants.{Four, Eight, Sixteen}
use Rattle.text_fields.specs.declared.kind.Kind.{Kind}
use Rattle.text_fields.specs.declared.kind.Kind.TheVariants.{Plain, OrDash}
use Rattle.text_fields.specs.declared.kind.Shape.{Shape}
use Rattle.text_fields.specs.declared.kind.Shape.TheVariants.{Number, Name, HexNumber, HexBytes, Hex}
use Rattle.text_fields.specs.declared.value.Value.{Value}
use Rattle.text_fields.specs.declared.value.Value.TheVariants as value
use Rattle.text_fields.specs.Hexadecimal.{AreBytes, bytes_of, hex_digits, hex_number_of, so_many_of}
use Rattle.text_fields.specs.Names.{is_name, name_of}
use Rattle.text_fields.specs.Numbers.{in_range, number_of}

-- the width of a number of so many digits
abbrev pub width_of : Digits → Width
width_of Four = w16
width_of Eight = w32
width_of Sixteen = w64

-- the value that a field of this shape says, where it has the shape
abbrev pub value_in : Shape → List ℕ → Option Value
value_in (Number least most) field = option_map value.Number (in_range least most (number_of field))
value_in Name field = option_map value.Name (name_of field)
value_in (HexNumber digits) field = option_map value.Number (hex_number_of (width_of digits) field)
value_in (HexBytes digits) field = option_map value.Bytes (so_many_of digits field)
value_in Hex field = option_map value.Bytes (bytes_of field)

-- `-`
abbrev pub dash : List ℕ
dash = codes "-"

-- the value that a field of this kind says, where it is of the kind
abbrev pub value_of : Kind → List ℕ → Option Value
value_of (Plain shape) field = value_in shape field
value_of (OrDash shape) field = if bytes_eq field dash then Some value.None else value_in shape field

-- the shape of a field that isn't `-`
abbrev pub shape_of : Kind → Shape
shape_of (Plain shape) = shape
shape_of (OrDash shape) = shape

-- how a field that isn't of its shape is refused: digits come after numbers and names
abbrev pub fault_in : Shape → FieldFault
fault_in (Number least most) = fault.Number
fault_in Name = fault.Number
fault_in (HexNumber digits) = fault.Hex
fault_in (HexBytes digits) = fault.Hex
fault_in Hex = fault.Hex

-- a value, or this fault where there is none
abbrev pub or_fault : FieldFault → Option Value → Result Value FieldFault
or_fault why None = Err why
or_fault why (Some v) = Ok v

-- the value that a field of this kind says, or how it is refused
abbrev pub field_value : Kind → List ℕ → Result Value FieldFault
field_value kind field = or_fault (fault_in (shape_of kind)) (value_of kind field)

-- ---- how a value is written

-- a number is written in decimal, but where digits are wanted
abbrev pub number_field : Shape → ℕ → List ℕ
number_field (Number least most) n = decimal n
number_field Name n = decimal n
number_field (HexNumber digits) n = hex_digits (width_of digits) n
number_field (HexBytes digits) n = decimal n
number_field Hex n = decimal n

-- the field that says a value
abbrev pub field_of : Kind → Value → List ℕ
field_of kind value.None = dash
field_of kind (value.Number n) = number_field (shape_of kind) n
field_of kind (value.Name name) = name
field_of kind (value.Bytes bytes) = encode_lower bytes

-- ---- which values a kind has

-- the values that fields of a shape say
abbrev pub FitsShape : Shape → Value → Type 0
FitsShape (Number least most) (value.Number n) = (least ≤ n) × (n ≤ most) × (n < 2 ^ 64)
FitsShape Name (value.Name name) = IsTrue (is_name name)
FitsShape (HexNumber digits) (value.Number n) = n < 2 ^ (8 * byte_len (width_of digits))
FitsShape (HexBytes digits) (value.Bytes bytes) = (2 * length bytes ≡ digits) × AreBytes bytes
FitsShape Hex (value.Bytes bytes) = AreBytes bytes
FitsShape shape v = ⊥

-- the values that fields of a kind say
abbrev pub Fits : Kind → Value → Type 0
Fits (Plain shape) v = FitsShape shape v
Fits (OrDash shape) value.None = Unit {0}
Fits (OrDash shape) v = FitsShape shape v
