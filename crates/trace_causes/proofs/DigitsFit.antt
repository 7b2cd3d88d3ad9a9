-- A number that was read of so many digits fits them.
use Rattle.std.proofs.Common.{◌≡◌, ℕ, ◌*◌, ◌^◌, ◌<◌, List, Ok, ap, ◌∙◌}
use Rattle.std.specs.Int.{byte_len}
use Rattle.text_fields.specs.declared.kind.Digits.{Digits}
use Rattle.text_fields.specs.declared.kind.Kind.TheVariants.{Plain}
use Rattle.text_fields.specs.declared.kind.Shape.TheVariants.{HexNumber}
use Rattle.text_fields.specs.declared.value.Value.{Value}
use Rattle.text_fields.specs.declared.value.Value.TheVariants as value
use Rattle.text_fields.specs.Fields.{field_value, width_of}
use Rattle.text_fields.specs.Laws.{FieldsAreWrittenAgain}

pub digits_fit : FieldsAreWrittenAgain → (d : Digits) (field : List ℕ) (v : Value) (n : ℕ) → field_value (Plain (HexNumber d)) field ≡ Ok v → v ≡ value.Number n → n < 2 ^ (8 * byte_len (width_of d))
digits_fit written d field v n e is = (written (Plain (HexNumber d)) field (value.Number n) (e ∙ ap Ok is)).0
