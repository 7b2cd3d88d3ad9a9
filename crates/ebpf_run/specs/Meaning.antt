-- RFC 9669, 4 and 5, and this project's own for the loads from the frame: the steps of a program.
use Rattle.std.specs.Prelude.{◌≡◌, ℕ, zero, suc, ◌+◌, ◌*◌, ◌^◌, ◌<◌, List, length, Option, Some, None, unwrap_or, ◌&&◌, ◌==◌, nat_le, if◌then◌else◌, slice_range}
use Rattle.std.specs.Int.{Width as IntegerWidth, w8, w16, w32, byte_len, from_be_bytes}
use Rattle.ebpf_code.specs.declared.operation.Source.{Source}
use Rattle.ebpf_code.specs.declared.operation.Source.TheVariants.{Immediate, Register}
use Rattle.ebpf_code.specs.declared.operation.Arithmetic.{Arithmetic}
use Rattle.ebpf_code.specs.declared.operation.Arithmetic.TheVariants.{Move}
use Rattle.ebpf_code.specs.declared.operation.LoadMode.{LoadMode}
use Rattle.ebpf_code.specs.declared.operation.LoadMode.TheVariants.{Absolute, Indirect}
use Rattle.ebpf_code.specs.declared.operation.LoadSize.{LoadSize}
use Rattle.ebpf_code.specs.declared.operation.LoadSize.TheVariants.{Word, Half, Byte}
use Rattle.ebpf_code.specs.declared.operation.Operation.{Operation}
use Rattle.ebpf_code.specs.declared.operation.Operation.TheVariants.{Calculate, Negate, SwapBytes, LoadImmediate, LoadFrame, Jump, Branch, Exit}
use Rattle.ebpf_code.specs.declared.instruction.Instruction.{Instruction}
use Rattle.ebpf_code.specs.Encoding.{encoding_at}
use Rattle.ebpf_code.specs.Instruction.{target}
use Rattle.ebpf_code.specs.Faults.{slot_count, is_second, instruction_at}
use Rattle.ebpf_code.specs.Step.{sign_extended}
use Rattle.ebpf_run.specs.Calculation.{low_half, calculated, negated, swapped, is_met}

-- ---- registers

-- what each register has, or none where it isn't set
abbrev pub Registers : Type 0
Registers = ℕ → Option ℕ

-- at the start R1 has the frame's length, and no other register is set
abbrev pub start : List ℕ → Registers
start frame r = if r == 1 then Some (length frame) else None

-- a register gets a number
abbrev pub write : Registers → ℕ → ℕ → Registers
write registers r value q = if q == r then Some value else registers q

-- R1 to R5 aren't set any more
abbrev pub spoil : Registers → Registers
spoil registers q = if nat_le 1 q && nat_le q 5 then None else registers q

-- the second operand: imm extended by its sign, or the register src
abbrev pub operand : Source → Instruction → Registers → Option ℕ
operand Immediate i registers = Some (sign_extended i.immediate)
operand Register i registers = registers i.source

-- the first operand: the register dst, whose old value doesn't count for a move
abbrev pub left : Arithmetic → Instruction → Registers → Option ℕ
left Move i registers = Some 0
left a i registers = registers i.destination

-- ---- loads from the frame

-- the number of bytes of a load, as the width of a number
abbrev pub width_of : LoadSize → IntegerWidth
width_of Word = w32
width_of Half = w16
width_of Byte = w8

-- the bytes of the frame from an index on as a number, the first byte the highest; none where they aren't wholly inside
abbrev pub number_at : List ℕ → ℕ → LoadSize → Option ℕ
number_at frame index size =
    if nat_le (index + byte_len (width_of size)) (length frame)
    then Some (from_be_bytes (width_of size) (slice_range frame index (index + byte_len (width_of size))))
    else None

-- imm plus the low half of a register, of 32 bits
abbrev pub low_sum : ℕ → Option ℕ → Option ℕ
low_sum n None = None
low_sum n (Some x) = Some (low_half (n + low_half x))

-- where a load begins: at imm, or at imm plus the low half of src
abbrev pub index_of : LoadMode → Instruction → Registers → Option ℕ
index_of Absolute i registers = Some i.immediate
index_of Indirect i registers = low_sum i.immediate (registers i.source)

-- ---- steps

-- what comes after an instruction: another place with other registers, the end with a result, or nothing, where it
-- reads a register that isn't set or where no instruction begins
pub data Outcome : Type 0 where
  Goes : (place : ℕ) (registers : ℕ → Option ℕ) → Outcome
  Ends : (result : ℕ) → Outcome
  Stuck : Outcome

-- goes on with a number that is read
abbrev pub with_value : Option ℕ → (ℕ → Outcome) → Outcome
with_value None go = Stuck
with_value (Some x) go = go x

-- after a load: R0 has the number and R1 to R5 aren't set, or the program ends with 0
abbrev pub loaded : Option ℕ → ℕ → Registers → Outcome
loaded None place registers = Ends 0
loaded (Some x) place registers = Goes (place + 1) (write (spoil registers) 0 x)

-- one instruction of the program, at its place
abbrev pub act : Operation → Instruction → List ℕ → List ℕ → ℕ → Registers → Outcome
act (Calculate w a s) i program frame place registers =
    with_value (left a i registers) (λ x. with_value (operand s i registers) (λ y.
    Goes (place + 1) (write registers i.destination (calculated w a x y))))
act (Negate w) i program frame place registers =
    with_value (registers i.destination) (λ x. Goes (place + 1) (write registers i.destination (negated w x)))
act (SwapBytes o) i program frame place registers =
    with_value (registers i.destination) (λ x.
    Goes (place + 1) (write registers i.destination (swapped o i.immediate x)))
act LoadImmediate i program frame place registers =
    Goes (place + 2)
    (write registers i.destination (i.immediate + 2 ^ 32 * (encoding_at program (place + 1)).immediate))
act (LoadFrame m z) i program frame place registers =
    with_value (index_of m i registers) (λ index. loaded (number_at frame index z) place registers)
act Jump i program frame place registers = Goes (target place i) registers
act (Branch w c s) i program frame place registers =
    with_value (registers i.destination) (λ x. with_value (operand s i registers) (λ y.
    Goes (if is_met w c x y then target place i else place + 1) registers))
act Exit i program frame place registers = with_value (registers 0) (λ x. Ends (low_half x))

-- the instruction that begins at a place, if one does
abbrev pub act_at : Option Instruction → List ℕ → List ℕ → ℕ → Registers → Outcome
act_at None program frame place registers = Stuck
act_at (Some i) program frame place registers = act i.operation i program frame place registers

-- one step
unfoldable pub step : List ℕ → List ℕ → ℕ → Registers → Outcome
step program frame place registers = act_at (instruction_at program place) program frame place registers

-- ---- runs

-- what is so at the next place, or at the end; nothing is so where it is stuck
abbrev pub Case : Outcome → (ℕ → Registers → Type 0) → (ℕ → Type 0) → Type 0
Case (Goes place registers) on end = on place registers
Case (Ends result) on end = end result
Case Stuck on end = ⊥

-- what is so at the next place, if there is one
abbrev pub IfGoes : Outcome → (ℕ → Registers → Type 0) → Type 0
IfGoes (Goes place registers) on = on place registers
IfGoes (Ends result) on = Unit {0}
IfGoes Stuck on = Unit {0}

-- from a place it ends with a result after exactly so many steps
abbrev pub EndsAfter : List ℕ → List ℕ → ℕ → ℕ → Registers → ℕ → Type 0
EndsAfter program frame zero place registers result = ⊥
EndsAfter program frame (suc n) place registers result =
    Case (step program frame place registers)
    (λ p g. EndsAfter program frame n p g result)
    (λ r. (n ≡ 0) × (r ≡ result))

-- a step leads only to later places
abbrev pub GoesForward : List ℕ → List ℕ → ℕ → Registers → Type 0
GoesForward program frame place registers = IfGoes (step program frame place registers) (λ p g. place < p)

-- after so many steps from the start it is at a place with these registers
abbrev pub Reaches : List ℕ → List ℕ → ℕ → ℕ → Registers → Type 0
Reaches program frame zero place registers = (place ≡ 0) × (registers ≡ start frame)
Reaches program frame (suc n) place registers =
    (p : ℕ) × (g : Registers) × Reaches program frame n p g × (step program frame p g ≡ Goes place registers)

-- the same as an answer: the result within so many steps
abbrev pub answer : Outcome → (ℕ → Registers → Option ℕ) → Option ℕ
answer (Goes place registers) on = on place registers
answer (Ends result) on = Some result
answer Stuck on = None

abbrev pub end_within : List ℕ → List ℕ → ℕ → ℕ → Registers → Option ℕ
end_within program frame zero place registers = None
end_within program frame (suc n) place registers =
    answer (step program frame place registers) (end_within program frame n)

-- the low half of R0 where the steps from place 0 end
unfoldable pub result_of : List ℕ → List ℕ → ℕ
result_of program frame = unwrap_or (end_within program frame (slot_count program) 0 (start frame)) 0

-- how many instructions begin below a place
abbrev pub instructions_below : List ℕ → ℕ → ℕ
instructions_below program zero = 0
instructions_below program (suc place) = instructions_below program place + (if is_second program place then 0 else 1)

-- how many instructions a program has
abbrev pub instruction_count : List ℕ → ℕ
instruction_count program = instructions_below program (slot_count program)
