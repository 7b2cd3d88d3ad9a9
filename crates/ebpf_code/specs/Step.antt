-- This project's own: what an instruction is decoded to, once, before it is run.
use Rattle.std.specs.Prelude.{◌≡◌, ℕ, ◌+◌, ◌-◌, ◌*◌, ◌^◌, ◌<◌, List, length, Option, Some, ◌==◌, nat_lt, if◌then◌else◌, slice_get}
use Rattle.ebpf_code.specs.declared.operation.Width.{Width}
use Rattle.ebpf_code.specs.declared.operation.Source.{Source}
use Rattle.ebpf_code.specs.declared.operation.Arithmetic.{Arithmetic}
use Rattle.ebpf_code.specs.declared.operation.Condition.{Condition}
use Rattle.ebpf_code.specs.declared.operation.LoadMode.{LoadMode}
use Rattle.ebpf_code.specs.declared.operation.LoadSize.{LoadSize}
use Rattle.ebpf_code.specs.declared.operation.Operation.{Operation}
use Rattle.ebpf_code.specs.declared.operation.Width.TheVariants.{Bits64, Bits32}
use Rattle.ebpf_code.specs.declared.operation.Arithmetic.TheVariants.{Add, Subtract, Multiply, Divide, Or, And, ShiftLeft, ShiftRight, Modulo, Xor, Move, ShiftRightSigned}
use Rattle.ebpf_code.specs.declared.operation.Condition.TheVariants.{Equal, Above, AboveOrEqual, CommonBits, NotEqual, SignedAbove, SignedAboveOrEqual, Below, BelowOrEqual, SignedBelow, SignedBelowOrEqual}
use Rattle.ebpf_code.specs.declared.operation.Source.TheVariants.{Immediate, Register}
use Rattle.ebpf_code.specs.declared.operation.ByteOrder.TheVariants.{Little, Big}
use Rattle.ebpf_code.specs.declared.operation.LoadMode.TheVariants.{Absolute, Indirect}
use Rattle.ebpf_code.specs.declared.operation.LoadSize.TheVariants.{Word, Half, Byte}
use Rattle.ebpf_code.specs.declared.operation.Operation.TheVariants.{Calculate, Negate, SwapBytes, LoadImmediate, LoadFrame, Jump, Branch, Exit}
use Rattle.ebpf_code.specs.declared.step.Code.{Code}
use Rattle.ebpf_code.specs.declared.step.Code.TheVariants as code
use Rattle.ebpf_code.specs.declared.step.Step.{Step}
use Rattle.ebpf_code.specs.declared.instruction.Instruction.{Instruction}
use Rattle.ebpf_code.specs.declared.instruction.Slot.{Slot}
use Rattle.ebpf_code.specs.declared.instruction.Slot.TheVariants.{Begins, HighHalf}
use Rattle.ebpf_code.specs.Encoding.{encoding_at}
use Rattle.ebpf_code.specs.Faults.{instruction_at}

-- ---- codes

-- arithmetic by its width and its second operand
abbrev pub calculation_code : Width → Arithmetic → Source → Code
calculation_code Bits64 Add Immediate = code.AddImmediate64
calculation_code Bits64 Subtract Immediate = code.SubtractImmediate64
calculation_code Bits64 Multiply Immediate = code.MultiplyImmediate64
calculation_code Bits64 Divide Immediate = code.DivideImmediate64
calculation_code Bits64 Or Immediate = code.OrImmediate64
calculation_code Bits64 And Immediate = code.AndImmediate64
calculation_code Bits64 ShiftLeft Immediate = code.ShiftLeftImmediate64
calculation_code Bits64 ShiftRight Immediate = code.ShiftRightImmediate64
calculation_code Bits64 Modulo Immediate = code.ModuloImmediate64
calculation_code Bits64 Xor Immediate = code.XorImmediate64
calculation_code Bits64 Move Immediate = code.MoveImmediate64
calculation_code Bits64 ShiftRightSigned Immediate = code.ShiftRightSignedImmediate64
calculation_code Bits64 Add Register = code.AddRegister64
calculation_code Bits64 Subtract Register = code.SubtractRegister64
calculation_code Bits64 Multiply Register = code.MultiplyRegister64
calculation_code Bits64 Divide Register = code.DivideRegister64
calculation_code Bits64 Or Register = code.OrRegister64
calculation_code Bits64 And Register = code.AndRegister64
calculation_code Bits64 ShiftLeft Register = code.ShiftLeftRegister64
calculation_code Bits64 ShiftRight Register = code.ShiftRightRegister64
calculation_code Bits64 Modulo Register = code.ModuloRegister64
calculation_code Bits64 Xor Register = code.XorRegister64
calculation_code Bits64 Move Register = code.MoveRegister64
calculation_code Bits64 ShiftRightSigned Register = code.ShiftRightSignedRegister64
calculation_code Bits32 Add Immediate = code.AddImmediate32
calculation_code Bits32 Subtract Immediate = code.SubtractImmediate32
calculation_code Bits32 Multiply Immediate = code.MultiplyImmediate32
calculation_code Bits32 Divide Immediate = code.DivideImmediate32
calculation_code Bits32 Or Immediate = code.OrImmediate32
calculation_code Bits32 And Immediate = code.AndImmediate32
calculation_code Bits32 ShiftLeft Immediate = code.ShiftLeftImmediate32
calculation_code Bits32 ShiftRight Immediate = code.ShiftRightImmediate32
calculation_code Bits32 Modulo Immediate = code.ModuloImmediate32
calculation_code Bits32 Xor Immediate = code.XorImmediate32
calculation_code Bits32 Move Immediate = code.MoveImmediate32
calculation_code Bits32 ShiftRightSigned Immediate = code.ShiftRightSignedImmediate32
calculation_code Bits32 Add Register = code.AddRegister32
calculation_code Bits32 Subtract Register = code.SubtractRegister32
calculation_code Bits32 Multiply Register = code.MultiplyRegister32
calculation_code Bits32 Divide Register = code.DivideRegister32
calculation_code Bits32 Or Register = code.OrRegister32
calculation_code Bits32 And Register = code.AndRegister32
calculation_code Bits32 ShiftLeft Register = code.ShiftLeftRegister32
calculation_code Bits32 ShiftRight Register = code.ShiftRightRegister32
calculation_code Bits32 Modulo Register = code.ModuloRegister32
calculation_code Bits32 Xor Register = code.XorRegister32
calculation_code Bits32 Move Register = code.MoveRegister32
calculation_code Bits32 ShiftRightSigned Register = code.ShiftRightSignedRegister32

-- conditional jumps by their width and their second operand
abbrev pub branch_code : Width → Condition → Source → Code
branch_code Bits64 Equal Immediate = code.JumpEqualImmediate64
branch_code Bits64 Above Immediate = code.JumpAboveImmediate64
branch_code Bits64 AboveOrEqual Immediate = code.JumpAboveOrEqualImmediate64
branch_code Bits64 CommonBits Immediate = code.JumpCommonBitsImmediate64
branch_code Bits64 NotEqual Immediate = code.JumpNotEqualImmediate64
branch_code Bits64 SignedAbove Immediate = code.JumpSignedAboveImmediate64
branch_code Bits64 SignedAboveOrEqual Immediate = code.JumpSignedAboveOrEqualImmediate64
branch_code Bits64 Below Immediate = code.JumpBelowImmediate64
branch_code Bits64 BelowOrEqual Immediate = code.JumpBelowOrEqualImmediate64
branch_code Bits64 SignedBelow Immediate = code.JumpSignedBelowImmediate64
branch_code Bits64 SignedBelowOrEqual Immediate = code.JumpSignedBelowOrEqualImmediate64
branch_code Bits64 Equal Register = code.JumpEqualRegister64
branch_code Bits64 Above Register = code.JumpAboveRegister64
branch_code Bits64 AboveOrEqual Register = code.JumpAboveOrEqualRegister64
branch_code Bits64 CommonBits Register = code.JumpCommonBitsRegister64
branch_code Bits64 NotEqual Register = code.JumpNotEqualRegister64
branch_code Bits64 SignedAbove Register = code.JumpSignedAboveRegister64
branch_code Bits64 SignedAboveOrEqual Register = code.JumpSignedAboveOrEqualRegister64
branch_code Bits64 Below Register = code.JumpBelowRegister64
branch_code Bits64 BelowOrEqual Register = code.JumpBelowOrEqualRegister64
branch_code Bits64 SignedBelow Register = code.JumpSignedBelowRegister64
branch_code Bits64 SignedBelowOrEqual Register = code.JumpSignedBelowOrEqualRegister64
branch_code Bits32 Equal Immediate = code.JumpEqualImmediate32
branch_code Bits32 Above Immediate = code.JumpAboveImmediate32
branch_code Bits32 AboveOrEqual Immediate = code.JumpAboveOrEqualImmediate32
branch_code Bits32 CommonBits Immediate = code.JumpCommonBitsImmediate32
branch_code Bits32 NotEqual Immediate = code.JumpNotEqualImmediate32
branch_code Bits32 SignedAbove Immediate = code.JumpSignedAboveImmediate32
branch_code Bits32 SignedAboveOrEqual Immediate = code.JumpSignedAboveOrEqualImmediate32
branch_code Bits32 Below Immediate = code.JumpBelowImmediate32
branch_code Bits32 BelowOrEqual Immediate = code.JumpBelowOrEqualImmediate32
branch_code Bits32 SignedBelow Immediate = code.JumpSignedBelowImmediate32
branch_code Bits32 SignedBelowOrEqual Immediate = code.JumpSignedBelowOrEqualImmediate32
branch_code Bits32 Equal Register = code.JumpEqualRegister32
branch_code Bits32 Above Register = code.JumpAboveRegister32
branch_code Bits32 AboveOrEqual Register = code.JumpAboveOrEqualRegister32
branch_code Bits32 CommonBits Register = code.JumpCommonBitsRegister32
branch_code Bits32 NotEqual Register = code.JumpNotEqualRegister32
branch_code Bits32 SignedAbove Register = code.JumpSignedAboveRegister32
branch_code Bits32 SignedAboveOrEqual Register = code.JumpSignedAboveOrEqualRegister32
branch_code Bits32 Below Register = code.JumpBelowRegister32
branch_code Bits32 BelowOrEqual Register = code.JumpBelowOrEqualRegister32
branch_code Bits32 SignedBelow Register = code.JumpSignedBelowRegister32
branch_code Bits32 SignedBelowOrEqual Register = code.JumpSignedBelowOrEqualRegister32

-- loads from the frame by their mode and size
abbrev pub load_code : LoadMode → LoadSize → Code
load_code Absolute Word = code.LoadWord
load_code Absolute Half = code.LoadHalf
load_code Absolute Byte = code.LoadByte
load_code Indirect Word = code.LoadWordIndirect
load_code Indirect Half = code.LoadHalfIndirect
load_code Indirect Byte = code.LoadByteIndirect

-- an operation's code; a swap's width is in imm
abbrev pub code_of : Operation → ℕ → Code
code_of (Calculate w a s) immediate = calculation_code w a s
code_of (Negate Bits64) immediate = code.Negate64
code_of (Negate Bits32) immediate = code.Negate32
code_of (SwapBytes Little) immediate =
    if immediate == 16 then code.Truncate16 else (if immediate == 32 then code.Truncate32 else code.Truncate64)
code_of (SwapBytes Big) immediate =
    if immediate == 16 then code.Reverse16 else (if immediate == 32 then code.Reverse32 else code.Reverse64)
code_of LoadImmediate immediate = code.LoadWide
code_of (LoadFrame m z) immediate = load_code m z
code_of Jump immediate = code.JumpAlways
code_of (Branch w c s) immediate = branch_code w c s
code_of Exit immediate = code.End

-- ---- operands

-- the 32 bits of imm as 64 bits with the same sign
abbrev pub sign_extended : ℕ → ℕ
sign_extended n = if nat_lt n (2 ^ 31) then n else n + (2 ^ 64 - 2 ^ 32)

-- the number of imm: with its sign, with the high half of a wide instruction, or where a load begins
abbrev pub number_of : Operation → ℕ → ℕ → ℕ
number_of LoadImmediate immediate high = immediate + 2 ^ 32 * high
number_of (LoadFrame m z) immediate high = immediate
number_of o immediate high = sign_extended immediate

-- ---- steps

-- the step of an operation and an instruction's fields, with the high half in the slot behind it
abbrev pub step_with : Operation → Instruction → ℕ → Step
step_with o i high = record {
  code = code_of o i.immediate;
  first = i.destination;
  second = i.source;
  distance = 1 + i.offset;
  number = number_of o i.immediate high;
}

-- the step of an instruction
abbrev pub step_of : Instruction → ℕ → Step
step_of i high = step_with i.operation i high

-- the high half in a slot, or 0
abbrev pub high_of : Option Slot → ℕ
high_of (Some (HighHalf high)) = high
high_of slot = 0

-- the step of a slot, with the slot behind it; that of the second slot of a wide instruction is never run
abbrev pub step_in : Option Slot → Option Slot → Step
step_in (Some (Begins i)) next = step_of i (high_of next)
step_in slot next = record {
  code = code.End;
  first = 0;
  second = 0;
  distance = 1;
  number = 0;
}

-- the steps are those of the slots
pub record AreDecoded (slots : List Slot) (steps : List Step) : Type 0 where
  pub many : length steps ≡ length slots
  pub each : (place : ℕ) → place < length slots
      → slice_get steps place ≡ Some (step_in (slice_get slots place) (slice_get slots (place + 1)))

-- the steps are those of the bytes: at each place that of the instruction there
pub record AreSteps (bytes : List ℕ) (steps : List Step) : Type 0 where
  pub aligned : length bytes ≡ 8 * length steps
  pub each : (place : ℕ) (i : Instruction) → instruction_at bytes place ≡ Some i
      → slice_get steps place ≡ Some (step_of i (encoding_at bytes (place + 1)).immediate)
