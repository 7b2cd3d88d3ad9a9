-- RFC 9669, 3.3, 4 and 5: the table of the instruction set. An opcode is a class in the low three bits and, for
-- arithmetic and jumps, a source in the next bit and a code in the high four.
use Rattle.std.specs.Prelude.{ℕ, ◌+◌, ◌/◌, ◌%◌, ◌^◌, Option, Some, None, Bool, true, false, not, ◌&&◌, ◌||◌, ◌==◌, nat_le, if◌then◌else◌}
use Rattle.std.specs.Option.{option_map}
use Rattle.ebpf_code.specs.declared.operation.Width.{Width}
use Rattle.ebpf_code.specs.declared.operation.Width.TheVariants.{Bits64, Bits32}
use Rattle.ebpf_code.specs.declared.operation.Source.{Source}
use Rattle.ebpf_code.specs.declared.operation.Source.TheVariants.{Immediate, Register}
use Rattle.ebpf_code.specs.declared.operation.Arithmetic.{Arithmetic}
use Rattle.ebpf_code.specs.declared.operation.Arithmetic.TheVariants.{Add, Subtract, Multiply, Divide, Or, And, ShiftLeft, ShiftRight, Modulo, Xor, Move, ShiftRightSigned}
use Rattle.ebpf_code.specs.declared.operation.Condition.{Condition}
use Rattle.ebpf_code.specs.declared.operation.Condition.TheVariants.{Equal, Above, AboveOrEqual, CommonBits, NotEqual, SignedAbove, SignedAboveOrEqual, Below, BelowOrEqual, SignedBelow, SignedBelowOrEqual}
use Rattle.ebpf_code.specs.declared.operation.ByteOrder.TheVariants.{Little, Big}
use Rattle.ebpf_code.specs.declared.operation.LoadMode.{LoadMode}
use Rattle.ebpf_code.specs.declared.operation.LoadMode.TheVariants.{Absolute, Indirect}
use Rattle.ebpf_code.specs.declared.operation.LoadSize.TheVariants.{Word, Half, Byte}
use Rattle.ebpf_code.specs.declared.operation.Operation.{Operation}
use Rattle.ebpf_code.specs.declared.operation.Operation.TheVariants.{Calculate, Negate, SwapBytes, LoadImmediate, LoadFrame, Jump, Branch, Exit}
use Rattle.ebpf_code.specs.declared.operation.Uses.{Uses}
use Rattle.ebpf_code.specs.declared.encoding.Encoding.{Encoding}
use Rattle.ebpf_code.specs.declared.instruction.Instruction.{Instruction}

-- ---- from opcodes to operations

-- 4: the source of an opcode, K or X
abbrev pub source_of : ℕ → Source
source_of opcode = if opcode / 8 % 2 == 0 then Immediate else Register

-- 4.1: ADD to ARSH by their codes. NEG and END have rules of their own.
abbrev pub arithmetic_of : ℕ → Option Arithmetic
arithmetic_of code =
    if code == 0x0 then Some Add else
    (if code == 0x1 then Some Subtract else
    (if code == 0x2 then Some Multiply else
    (if code == 0x3 then Some Divide else
    (if code == 0x4 then Some Or else
    (if code == 0x5 then Some And else
    (if code == 0x6 then Some ShiftLeft else
    (if code == 0x7 then Some ShiftRight else
    (if code == 0x9 then Some Modulo else
    (if code == 0xa then Some Xor else
    (if code == 0xb then Some Move else
    (if code == 0xc then Some ShiftRightSigned else None)))))))))))

-- 4.3: JEQ to JSLE by their codes
abbrev pub condition_of : ℕ → Option Condition
condition_of code =
    if code == 0x1 then Some Equal else
    (if code == 0x2 then Some Above else
    (if code == 0x3 then Some AboveOrEqual else
    (if code == 0x4 then Some CommonBits else
    (if code == 0x5 then Some NotEqual else
    (if code == 0x6 then Some SignedAbove else
    (if code == 0x7 then Some SignedAboveOrEqual else
    (if code == 0xa then Some Below else
    (if code == 0xb then Some BelowOrEqual else
    (if code == 0xc then Some SignedBelow else
    (if code == 0xd then Some SignedBelowOrEqual else None))))))))))

-- an operation that has no source
abbrev pub without_source : Operation → Source → Option Operation
without_source operation Immediate = Some operation
without_source operation Register = None

-- 4.2: END is of the class ALU, and its source bit is the order of the bytes
abbrev pub swap_of : Width → Source → Option Operation
swap_of Bits32 Immediate = Some (SwapBytes Little)
swap_of Bits32 Register = Some (SwapBytes Big)
swap_of Bits64 source = None

-- the classes ALU and ALU64
abbrev pub calculation_of : Width → Source → ℕ → Option Operation
calculation_of width source code =
    if code == 0x8 then without_source (Negate width) source else
    (if code == 0xd then swap_of width source else
    option_map (λ a. Calculate width a source) (arithmetic_of code))

-- the conditional jumps of the classes JMP and JMP32
abbrev pub branch_of : Width → Source → ℕ → Option Operation
branch_of width source code = option_map (λ c. Branch width c source) (condition_of code)

-- the class JMP: JA, EXIT and the conditional jumps
abbrev pub jump_of : Source → ℕ → Option Operation
jump_of source code =
    if code == 0x0 then without_source Jump source else
    (if code == 0x9 then without_source Exit source else branch_of Bits64 source code)

-- 5.4 and 5.5: the class LD has the wide instruction and the loads from the frame
abbrev pub load_of : ℕ → Option Operation
load_of opcode =
    if opcode == 0x18 then Some LoadImmediate else
    (if opcode == 0x20 then Some (LoadFrame Absolute Word) else
    (if opcode == 0x28 then Some (LoadFrame Absolute Half) else
    (if opcode == 0x30 then Some (LoadFrame Absolute Byte) else
    (if opcode == 0x40 then Some (LoadFrame Indirect Word) else
    (if opcode == 0x48 then Some (LoadFrame Indirect Half) else
    (if opcode == 0x50 then Some (LoadFrame Indirect Byte) else None))))))

-- 3.3: by the class, an opcode's operation. No opcode of the classes LDX, ST and STX is in the table.
unfoldable pub operation_of : ℕ → Option Operation
operation_of opcode =
    if opcode % 8 == 0 then load_of opcode else
    (if opcode % 8 == 4 then calculation_of Bits32 (source_of opcode) (opcode / 16) else
    (if opcode % 8 == 5 then jump_of (source_of opcode) (opcode / 16) else
    (if opcode % 8 == 6 then branch_of Bits32 (source_of opcode) (opcode / 16) else
    (if opcode % 8 == 7 then calculation_of Bits64 (source_of opcode) (opcode / 16) else None))))

-- ---- what an operation uses

abbrev pub is_register : Source → Bool
is_register Immediate = false
is_register Register = true

abbrev pub is_immediate : Source → Bool
is_immediate Immediate = true
is_immediate Register = false

-- whether the destination's old value counts
abbrev pub is_move : Arithmetic → Bool
is_move Move = true
is_move a = false

-- whether the mode adds a register
abbrev pub is_indirect : LoadMode → Bool
is_indirect Absolute = false
is_indirect Indirect = true

-- the fields of arithmetic and of conditional jumps: the register dst, the offset, and the register src or imm
abbrev pub uses_of : Bool → Bool → Bool → Source → Uses
uses_of reads_destination writes_destination offset s = record {
  reads_destination = reads_destination;
  writes_destination = writes_destination;
  source = is_register s;
  offset = offset;
  immediate = is_immediate s;
}

-- no field
abbrev pub no_uses : Uses
no_uses = record {
  reads_destination = false;
  writes_destination = false;
  source = false;
  offset = false;
  immediate = false;
}

-- the fields that an operation uses; all others are 0
abbrev pub uses : Operation → Uses
uses (Calculate w a s) = uses_of (not (is_move a)) true false s
uses (Negate w) = record no_uses { reads_destination = true; writes_destination = true }
uses (SwapBytes o) = record no_uses { reads_destination = true; writes_destination = true; immediate = true }
uses LoadImmediate = record no_uses { writes_destination = true; immediate = true }
uses (LoadFrame m z) = record no_uses { source = is_indirect m; immediate = true }
uses Jump = record no_uses { offset = true }
uses (Branch w c s) = uses_of true false true s
uses Exit = no_uses

abbrev pub is_wide : Operation → Bool
is_wide LoadImmediate = true
is_wide o = false

abbrev pub is_swap : Operation → Bool
is_swap (SwapBytes o) = true
is_swap o = false

abbrev pub is_load : Operation → Bool
is_load (LoadFrame m z) = true
is_load o = false

abbrev pub is_exit : Operation → Bool
is_exit Exit = true
is_exit o = false

-- whether it may go on at the next instruction
abbrev pub falls_through : Operation → Bool
falls_through Jump = false
falls_through Exit = false
falls_through o = true

-- how many slots it takes
abbrev pub slots_of : Operation → ℕ
slots_of o = if is_wide o then 2 else 1

-- ---- instructions

-- an operation with the fields of its slot
abbrev pub instruction : Operation → Encoding → Instruction
instruction o e = record {
  operation = o;
  destination = e.destination;
  source = e.source;
  offset = e.offset;
  immediate = e.immediate;
}

-- the registers that it reads: those of its fields, and R0 at the end
abbrev pub reads : Instruction → ℕ → Bool
reads i r =
    ((uses i.operation).reads_destination && r == i.destination)
    || ((uses i.operation).source && r == i.source)
    || (is_exit i.operation && r == 0)

-- the register that it writes: that of its field, and R0 at a load
abbrev pub writes : Instruction → ℕ → Bool
writes i r = ((uses i.operation).writes_destination && r == i.destination) || (is_load i.operation && r == 0)

-- the registers that it leaves unset: R1 to R5 at a load
abbrev pub spoils : Instruction → ℕ → Bool
spoils i r = is_load i.operation && (nat_le 1 r && nat_le r 5)

-- whether its offset, a signed number of 16 bits, is below 0
abbrev pub goes_backward : Instruction → Bool
goes_backward i = (uses i.operation).offset && nat_le (2 ^ 15) i.offset

-- whether it jumps to a place at or after its own
abbrev pub goes_forward : Instruction → Bool
goes_forward i = (uses i.operation).offset && not (nat_le (2 ^ 15) i.offset)

-- where a jump at a place goes: to the slot after it plus offset
abbrev pub target : ℕ → Instruction → ℕ
target place i = place + 1 + i.offset

-- whether from a place it may go on at a place: the next instruction, or the target of a jump
abbrev pub leads : ℕ → Instruction → ℕ → Bool
leads place i next =
    (falls_through i.operation && next == place + slots_of i.operation) || (goes_forward i && next == target place i)
