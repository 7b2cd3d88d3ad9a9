-- This project's own: what values that were read come to with what the other fields say.
use Rattle.std.specs.Prelude.{Bool, true, false, List, ◌++◌, Result, Ok, Err}
use Rattle.text_fields.specs.declared.fault.FieldFault.{FieldFault}
use Rattle.text_fields.specs.declared.fault.FieldFault.TheVariants as fault
use Rattle.text_fields.specs.declared.value.Value.{Value}
use Rattle.text_fields.specs.Forms.{with_first}

-- the values so far, or a fault of digits, and then what the other fields say
abbrev pub finished : List Value → Bool → Result (List Value) FieldFault → Result (List Value) FieldFault
finished front false (Ok others) = Ok (front ++ others)
finished front false (Err why) = Err why
finished front true others = with_first (Err fault.Hex) others
