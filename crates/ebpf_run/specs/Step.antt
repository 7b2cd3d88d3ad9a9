-- This project's own: what the machine does at a step, against the meaning of its instruction.
use Rattle.std.specs.Prelude.{◌≡◌, ℕ, ◌+◌, ◌%◌, ◌^◌, List, Option, Some, None, true, if◌then◌else◌, slice_index}
use Rattle.std.specs.Int.{w16, w32, w64, swap_bytes}
use Rattle.ebpf_code.specs.declared.operation.Width.TheVariants.{Bits64, Bits32}
use Rattle.ebpf_code.specs.declared.operation.Arithmetic.TheVariants.{Add, Subtract, Multiply, Divide, Or, And, ShiftLeft, ShiftRight, Modulo, Xor, Move, ShiftRightSigned}
use Rattle.ebpf_code.specs.declared.operation.Condition.TheVariants.{Equal, Above, AboveOrEqual, CommonBits, NotEqual, SignedAbove, SignedAboveOrEqual, Below, BelowOrEqual, SignedBelow, SignedBelowOrEqual}
use Rattle.ebpf_code.specs.declared.operation.LoadSize.TheVariants.{Word, Half, Byte}
use Rattle.ebpf_code.specs.declared.step.Code.{Code}
use Rattle.ebpf_code.specs.declared.step.Code.TheVariants as code
use Rattle.ebpf_code.specs.declared.step.Step.{Step}
use Rattle.ebpf_run.specs.declared.calculation.Effect.{Effect}
use Rattle.ebpf_run.specs.declared.calculation.Effect.TheVariants as effects
use Rattle.ebpf_run.specs.declared.machine.Next.{Next}
use Rattle.ebpf_run.specs.declared.machine.Next.TheVariants as leads
use Rattle.ebpf_run.specs.Calculation.{low_half, calculated, negated, is_met}
use Rattle.ebpf_run.specs.Meaning.{Registers, write, number_at}
use Rattle.ebpf_run.specs.Machine.{Holds}

-- what a step of a code does with the numbers x and y in its registers, and its own number n
abbrev pub effect_of : Code → ℕ → ℕ → ℕ → Effect
effect_of code.AddImmediate64 x y n = effects.Write (calculated Bits64 Add x n)
effect_of code.SubtractImmediate64 x y n = effects.Write (calculated Bits64 Subtract x n)
effect_of code.MultiplyImmediate64 x y n = effects.Write (calculated Bits64 Multiply x n)
effect_of code.DivideImmediate64 x y n = effects.Write (calculated Bits64 Divide x n)
effect_of code.OrImmediate64 x y n = effects.Write (calculated Bits64 Or x n)
effect_of code.AndImmediate64 x y n = effects.Write (calculated Bits64 And x n)
effect_of code.ShiftLeftImmediate64 x y n = effects.Write (calculated Bits64 ShiftLeft x n)
effect_of code.ShiftRightImmediate64 x y n = effects.Write (calculated Bits64 ShiftRight x n)
effect_of code.ModuloImmediate64 x y n = effects.Write (calculated Bits64 Modulo x n)
effect_of code.XorImmediate64 x y n = effects.Write (calculated Bits64 Xor x n)
effect_of code.MoveImmediate64 x y n = effects.Write (calculated Bits64 Move x n)
effect_of code.ShiftRightSignedImmediate64 x y n = effects.Write (calculated Bits64 ShiftRightSigned x n)
effect_of code.AddRegister64 x y n = effects.Write (calculated Bits64 Add x y)
effect_of code.SubtractRegister64 x y n = effects.Write (calculated Bits64 Subtract x y)
effect_of code.MultiplyRegister64 x y n = effects.Write (calculated Bits64 Multiply x y)
effect_of code.DivideRegister64 x y n = effects.Write (calculated Bits64 Divide x y)
effect_of code.OrRegister64 x y n = effects.Write (calculated Bits64 Or x y)
effect_of code.AndRegister64 x y n = effects.Write (calculated Bits64 And x y)
effect_of code.ShiftLeftRegister64 x y n = effects.Write (calculated Bits64 ShiftLeft x y)
effect_of code.ShiftRightRegister64 x y n = effects.Write (calculated Bits64 ShiftRight x y)
effect_of code.ModuloRegister64 x y n = effects.Write (calculated Bits64 Modulo x y)
effect_of code.XorRegister64 x y n = effects.Write (calculated Bits64 Xor x y)
effect_of code.MoveRegister64 x y n = effects.Write (calculated Bits64 Move x y)
effect_of code.ShiftRightSignedRegister64 x y n = effects.Write (calculated Bits64 ShiftRightSigned x y)
effect_of code.AddImmediate32 x y n = effects.Write (calculated Bits32 Add x n)
effect_of code.SubtractImmediate32 x y n = effects.Write (calculated Bits32 Subtract x n)
effect_of code.MultiplyImmediate32 x y n = effects.Write (calculated Bits32 Multiply x n)
effect_of code.DivideImmediate32 x y n = effects.Write (calculated Bits32 Divide x n)
effect_of code.OrImmediate32 x y n = effects.Write (calculated Bits32 Or x n)
effect_of code.AndImmediate32 x y n = effects.Write (calculated Bits32 And x n)
effect_of code.ShiftLeftImmediate32 x y n = effects.Write (calculated Bits32 ShiftLeft x n)
effect_of code.ShiftRightImmediate32 x y n = effects.Write (calculated Bits32 ShiftRight x n)
effect_of code.ModuloImmediate32 x y n = effects.Write (calculated Bits32 Modulo x n)
effect_of code.XorImmediate32 x y n = effects.Write (calculated Bits32 Xor x n)
effect_of code.MoveImmediate32 x y n = effects.Write (calculated Bits32 Move x n)
effect_of code.ShiftRightSignedImmediate32 x y n = effects.Write (calculated Bits32 ShiftRightSigned x n)
effect_of code.AddRegister32 x y n = effects.Write (calculated Bits32 Add x y)
effect_of code.SubtractRegister32 x y n = effects.Write (calculated Bits32 Subtract x y)
effect_of code.MultiplyRegister32 x y n = effects.Write (calculated Bits32 Multiply x y)
effect_of code.DivideRegister32 x y n = effects.Write (calculated Bits32 Divide x y)
effect_of code.OrRegister32 x y n = effects.Write (calculated Bits32 Or x y)
effect_of code.AndRegister32 x y n = effects.Write (calculated Bits32 And x y)
effect_of code.ShiftLeftRegister32 x y n = effects.Write (calculated Bits32 ShiftLeft x y)
effect_of code.ShiftRightRegister32 x y n = effects.Write (calculated Bits32 ShiftRight x y)
effect_of code.ModuloRegister32 x y n = effects.Write (calculated Bits32 Modulo x y)
effect_of code.XorRegister32 x y n = effects.Write (calculated Bits32 Xor x y)
effect_of code.MoveRegister32 x y n = effects.Write (calculated Bits32 Move x y)
effect_of code.ShiftRightSignedRegister32 x y n = effects.Write (calculated Bits32 ShiftRightSigned x y)
effect_of code.Negate64 x y n = effects.Write (negated Bits64 x)
effect_of code.Negate32 x y n = effects.Write (negated Bits32 x)
effect_of code.Truncate16 x y n = effects.Write (x % 2 ^ 16)
effect_of code.Truncate32 x y n = effects.Write (x % 2 ^ 32)
effect_of code.Truncate64 x y n = effects.Write x
effect_of code.Reverse16 x y n = effects.Write (swap_bytes w16 (x % 2 ^ 16))
effect_of code.Reverse32 x y n = effects.Write (swap_bytes w32 (x % 2 ^ 32))
effect_of code.Reverse64 x y n = effects.Write (swap_bytes w64 x)
effect_of code.LoadWide x y n = effects.WriteWide n
effect_of code.LoadWord x y n = effects.Load Word n
effect_of code.LoadHalf x y n = effects.Load Half n
effect_of code.LoadByte x y n = effects.Load Byte n
effect_of code.LoadWordIndirect x y n = effects.Load Word (low_half (low_half n + low_half y))
effect_of code.LoadHalfIndirect x y n = effects.Load Half (low_half (low_half n + low_half y))
effect_of code.LoadByteIndirect x y n = effects.Load Byte (low_half (low_half n + low_half y))
effect_of code.JumpAlways x y n = effects.Jump true
effect_of code.JumpEqualImmediate64 x y n = effects.Jump (is_met Bits64 Equal x n)
effect_of code.JumpAboveImmediate64 x y n = effects.Jump (is_met Bits64 Above x n)
effect_of code.JumpAboveOrEqualImmediate64 x y n = effects.Jump (is_met Bits64 AboveOrEqual x n)
effect_of code.JumpCommonBitsImmediate64 x y n = effects.Jump (is_met Bits64 CommonBits x n)
effect_of code.JumpNotEqualImmediate64 x y n = effects.Jump (is_met Bits64 NotEqual x n)
effect_of code.JumpSignedAboveImmediate64 x y n = effects.Jump (is_met Bits64 SignedAbove x n)
effect_of code.JumpSignedAboveOrEqualImmediate64 x y n = effects.Jump (is_met Bits64 SignedAboveOrEqual x n)
effect_of code.JumpBelowImmediate64 x y n = effects.Jump (is_met Bits64 Below x n)
effect_of code.JumpBelowOrEqualImmediate64 x y n = effects.Jump (is_met Bits64 BelowOrEqual x n)
effect_of code.JumpSignedBelowImmediate64 x y n = effects.Jump (is_met Bits64 SignedBelow x n)
effect_of code.JumpSignedBelowOrEqualImmediate64 x y n = effects.Jump (is_met Bits64 SignedBelowOrEqual x n)
effect_of code.JumpEqualRegister64 x y n = effects.Jump (is_met Bits64 Equal x y)
effect_of code.JumpAboveRegister64 x y n = effects.Jump (is_met Bits64 Above x y)
effect_of code.JumpAboveOrEqualRegister64 x y n = effects.Jump (is_met Bits64 AboveOrEqual x y)
effect_of code.JumpCommonBitsRegister64 x y n = effects.Jump (is_met Bits64 CommonBits x y)
effect_of code.JumpNotEqualRegister64 x y n = effects.Jump (is_met Bits64 NotEqual x y)
effect_of code.JumpSignedAboveRegister64 x y n = effects.Jump (is_met Bits64 SignedAbove x y)
effect_of code.JumpSignedAboveOrEqualRegister64 x y n = effects.Jump (is_met Bits64 SignedAboveOrEqual x y)
effect_of code.JumpBelowRegister64 x y n = effects.Jump (is_met Bits64 Below x y)
effect_of code.JumpBelowOrEqualRegister64 x y n = effects.Jump (is_met Bits64 BelowOrEqual x y)
effect_of code.JumpSignedBelowRegister64 x y n = effects.Jump (is_met Bits64 SignedBelow x y)
effect_of code.JumpSignedBelowOrEqualRegister64 x y n = effects.Jump (is_met Bits64 SignedBelowOrEqual x y)
effect_of code.JumpEqualImmediate32 x y n = effects.Jump (is_met Bits32 Equal x n)
effect_of code.JumpAboveImmediate32 x y n = effects.Jump (is_met Bits32 Above x n)
effect_of code.JumpAboveOrEqualImmediate32 x y n = effects.Jump (is_met Bits32 AboveOrEqual x n)
effect_of code.JumpCommonBitsImmediate32 x y n = effects.Jump (is_met Bits32 CommonBits x n)
effect_of code.JumpNotEqualImmediate32 x y n = effects.Jump (is_met Bits32 NotEqual x n)
effect_of code.JumpSignedAboveImmediate32 x y n = effects.Jump (is_met Bits32 SignedAbove x n)
effect_of code.JumpSignedAboveOrEqualImmediate32 x y n = effects.Jump (is_met Bits32 SignedAboveOrEqual x n)
effect_of code.JumpBelowImmediate32 x y n = effects.Jump (is_met Bits32 Below x n)
effect_of code.JumpBelowOrEqualImmediate32 x y n = effects.Jump (is_met Bits32 BelowOrEqual x n)
effect_of code.JumpSignedBelowImmediate32 x y n = effects.Jump (is_met Bits32 SignedBelow x n)
effect_of code.JumpSignedBelowOrEqualImmediate32 x y n = effects.Jump (is_met Bits32 SignedBelowOrEqual x n)
effect_of code.JumpEqualRegister32 x y n = effects.Jump (is_met Bits32 Equal x y)
effect_of code.JumpAboveRegister32 x y n = effects.Jump (is_met Bits32 Above x y)
effect_of code.JumpAboveOrEqualRegister32 x y n = effects.Jump (is_met Bits32 AboveOrEqual x y)
effect_of code.JumpCommonBitsRegister32 x y n = effects.Jump (is_met Bits32 CommonBits x y)
effect_of code.JumpNotEqualRegister32 x y n = effects.Jump (is_met Bits32 NotEqual x y)
effect_of code.JumpSignedAboveRegister32 x y n = effects.Jump (is_met Bits32 SignedAbove x y)
effect_of code.JumpSignedAboveOrEqualRegister32 x y n = effects.Jump (is_met Bits32 SignedAboveOrEqual x y)
effect_of code.JumpBelowRegister32 x y n = effects.Jump (is_met Bits32 Below x y)
effect_of code.JumpBelowOrEqualRegister32 x y n = effects.Jump (is_met Bits32 BelowOrEqual x y)
effect_of code.JumpSignedBelowRegister32 x y n = effects.Jump (is_met Bits32 SignedBelow x y)
effect_of code.JumpSignedBelowOrEqualRegister32 x y n = effects.Jump (is_met Bits32 SignedBelowOrEqual x y)
effect_of code.End x y n = effects.End

-- a number is written to a register
abbrev pub IsWritten : List ℕ → ℕ → ℕ → List ℕ → Type 0
IsWritten old r value new = (g : Registers) → Holds old g → Holds new (write g r value)

-- R0 has the number, and the machine goes on, or the program ends with 0
abbrev pub IsLoaded : Option ℕ → ℕ → List ℕ → Next → List ℕ → Type 0
IsLoaded None place old next new = next ≡ leads.End 0
IsLoaded (Some x) place old next new = (next ≡ leads.At (place + 1)) × IsWritten old 0 x new

-- an effect on the numbers, and where it leads
abbrev pub Does : Effect → Step → List ℕ → ℕ → List ℕ → Next → List ℕ → Type 0
Does (effects.Write value) step frame place old next new =
    (next ≡ leads.At (place + 1)) × IsWritten old step.first value new
Does (effects.WriteWide value) step frame place old next new =
    (next ≡ leads.At (place + 2)) × IsWritten old step.first value new
Does (effects.Jump met) step frame place old next new =
    (next ≡ leads.At (place + (if met then step.distance else 1))) × (new ≡ old)
Does (effects.Load size index) step frame place old next new = IsLoaded (number_at frame index size) place old next new
Does effects.End step frame place old next new = next ≡ leads.End (low_half (slice_index old 0))

-- the machine does a step
abbrev pub DoesStep : Step → List ℕ → ℕ → List ℕ → Next → List ℕ → Type 0
DoesStep step frame place old next new =
    Does (effect_of step.code (slice_index old step.first) (slice_index old step.second) step.number) step frame
    place old next new
