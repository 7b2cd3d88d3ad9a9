-- This project's own: what a call answers, where want of memory is free.
use Rattle.std.specs.Prelude.{◌≡◌, Result, Ok, Err}
use Rattle.tap_ground.specs.declared.error.OrMemory.{OrMemory}
use Rattle.tap_ground.specs.declared.error.OrMemory.TheVariants.{Fault, NoMemory}

-- the answer is this value or this fault; want of memory says nothing
abbrev pub Gives : {X E : Type 0} → Result X (OrMemory E) → Result X E → Type 0
Gives (Ok x) wanted = wanted ≡ Ok x
Gives (Err (Fault fault)) wanted = wanted ≡ Err fault
Gives (Err NoMemory) wanted = Unit {0}

-- a fault that is so; want of memory says nothing
abbrev pub IfFault : {E : Type 0} → (E → Type 0) → OrMemory E → Type 0
IfFault P (Fault fault) = P fault
IfFault P NoMemory = Unit {0}
