-- RFC 9669, 3 and 4: the bytes of an instruction.
use Rattle.std.specs.Prelude.{ℕ, ◌+◌, ◌*◌, List, ◌∷◌, ◌++◌}
use Rattle.std.specs.List.{flat_map}
use Rattle.std.specs.Int.{w16, w32, to_le_bytes}
use Rattle.ebpf_code.specs.declared.operation.Width.TheVariants.{Bits64, Bits32}
use Rattle.ebpf_code.specs.declared.operation.Source.{Source}
use Rattle.ebpf_code.specs.declared.operation.Source.TheVariants.{Immediate, Register}
use Rattle.ebpf_code.specs.declared.operation.Arithmetic.{Arithmetic}
use Rattle.ebpf_code.specs.declared.operation.Arithmetic.TheVariants.{Add, Subtract, Multiply, Divide, Or, And, ShiftLeft, ShiftRight, Modulo, Xor, Move, ShiftRightSigned}
use Rattle.ebpf_code.specs.declared.operation.Condition.{Condition}
use Rattle.ebpf_code.specs.declared.operation.Condition.TheVariants.{Equal, Above, AboveOrEqual, CommonBits, NotEqual, SignedAbove, SignedAboveOrEqual, Below, BelowOrEqual, SignedBelow, SignedBelowOrEqual}
use Rattle.ebpf_code.specs.declared.operation.ByteOrder.TheVariants.{Little, Big}
use Rattle.ebpf_code.specs.declared.operation.LoadMode.TheVariants.{Absolute, Indirect}
use Rattle.ebpf_code.specs.declared.operation.LoadSize.TheVariants.{Word, Half, Byte}
use Rattle.ebpf_code.specs.declared.operation.Operation.{Operation}
use Rattle.ebpf_code.specs.declared.operation.Operation.TheVariants.{Calculate, Negate, SwapBytes, LoadImmediate, LoadFrame, Jump, Branch, Exit}
use Rattle.ebpf_code.specs.declared.instruction.Slot.{Slot}
use Rattle.ebpf_code.specs.declared.instruction.Slot.TheVariants.{Begins, HighHalf}

-- 4: K and X
abbrev pub source_bit : Source → ℕ
source_bit Immediate = 0x00
source_bit Register = 0x08

-- 4.1: the codes of the arithmetic
abbrev pub arithmetic_code : Arithmetic → ℕ
arithmetic_code Add = 0x0
arithmetic_code Subtract = 0x1
arithmetic_code Multiply = 0x2
arithmetic_code Divide = 0x3
arithmetic_code Or = 0x4
arithmetic_code And = 0x5
arithmetic_code ShiftLeft = 0x6
arithmetic_code ShiftRight = 0x7
arithmetic_code Modulo = 0x9
arithmetic_code Xor = 0xa
arithmetic_code Move = 0xb
arithmetic_code ShiftRightSigned = 0xc

-- 4.3: the codes of the conditions
abbrev pub condition_code : Condition → ℕ
condition_code Equal = 0x1
condition_code Above = 0x2
condition_code AboveOrEqual = 0x3
condition_code CommonBits = 0x4
condition_code NotEqual = 0x5
condition_code SignedAbove = 0x6
condition_code SignedAboveOrEqual = 0x7
condition_code Below = 0xa
condition_code BelowOrEqual = 0xb
condition_code SignedBelow = 0xc
condition_code SignedBelowOrEqual = 0xd

-- 3.3 and 4: the class, the source and the code
abbrev pub opcode : Operation → ℕ
opcode (Calculate Bits64 a s) = 0x07 + source_bit s + 16 * arithmetic_code a
opcode (Calculate Bits32 a s) = 0x04 + source_bit s + 16 * arithmetic_code a
opcode (Negate Bits64) = 0x87
opcode (Negate Bits32) = 0x84
opcode (SwapBytes Little) = 0xd4
opcode (SwapBytes Big) = 0xdc
opcode LoadImmediate = 0x18
opcode (LoadFrame Absolute Word) = 0x20
opcode (LoadFrame Absolute Half) = 0x28
opcode (LoadFrame Absolute Byte) = 0x30
opcode (LoadFrame Indirect Word) = 0x40
opcode (LoadFrame Indirect Half) = 0x48
opcode (LoadFrame Indirect Byte) = 0x50
opcode Jump = 0x05
opcode (Branch Bits64 c s) = 0x05 + source_bit s + 16 * condition_code c
opcode (Branch Bits32 c s) = 0x06 + source_bit s + 16 * condition_code c
opcode Exit = 0x95

-- 3.1: the 8 bytes of a slot
abbrev pub slot_bytes : Slot → List ℕ
slot_bytes (Begins i) =
    opcode i.operation ∷ (i.destination + 16 * i.source) ∷ (to_le_bytes w16 i.offset ++ to_le_bytes w32 i.immediate)
slot_bytes (HighHalf n) = 0 ∷ 0 ∷ (to_le_bytes w16 0 ++ to_le_bytes w32 n)

-- the bytes of all slots
unfoldable pub spelling : List Slot → List ℕ
spelling slots = flat_map slot_bytes slots
