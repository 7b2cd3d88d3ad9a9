-- This project's own: the devices that operations name.
use Rattle.std.specs.Prelude.{ℕ, ◌<◌, List, length, Option, Some, None, IfSome}
use Rattle.tap_steer.specs.declared.operation.Op.{Op}
use Rattle.tap_steer.specs.declared.operation.Op.TheVariants as op
use Rattle.tap_world.specs.declared.told.Published.{Published}

-- the device that an operation names, by its number among the names
abbrev pub device_in : Op → Option ℕ
device_in (op.SetIff file device flags) = Some device
device_in other = None

-- these names have the device that an operation names
abbrev pub HasDevice : List (List ℕ) → Published → Type 0
HasDevice names p = IfSome (device_in p.op) (λ device. device < length names)
