-- This project's own: what reading one field answers, unless memory runs out.
use Rattle.std.specs.Prelude.{◌≡◌, Result, Err}
use Rattle.tap_ground.specs.declared.error.OrMemory.{OrMemory}
use Rattle.tap_ground.specs.declared.error.OrMemory.TheVariants.{Fault, NoMemory}
use Rattle.text_fields.specs.declared.fault.FieldFault.{FieldFault}
use Rattle.text_fields.specs.declared.fault.FieldFault.TheVariants.{Number}

-- a fault of a number or a name, which reading gives too; want of memory says nothing
abbrev pub TellsNumber : {X : Type 0} → OrMemory FieldFault → Result X FieldFault → Type 0
TellsNumber (Fault why) read = (why ≡ Number) × (read ≡ Err Number)
TellsNumber NoMemory read = Unit {0}
