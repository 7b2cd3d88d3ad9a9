-- This project's own: what a program without faults is good for, instruction by instruction. Nothing of it need be
-- believed: it follows from the faults by a law.
use Rattle.std.specs.Prelude.{◌≡◌, ℕ, ◌+◌, ◌<◌, ◌≤◌, List, Some, true, false}
use Rattle.ebpf_code.specs.declared.operation.Operation.{Operation}
use Rattle.ebpf_code.specs.declared.instruction.Instruction.{Instruction}
use Rattle.ebpf_code.specs.Encoding.{encoding_at}
use Rattle.ebpf_code.specs.Instruction.{uses, is_wide, instruction, reads, goes_forward, leads}
use Rattle.ebpf_code.specs.Faults.{slot_count, is_second, instruction_at, IsPath, is_set, NoFault}

-- the program can be run
pub record IsSound (bytes : List ℕ) : Type 0 where
  -- it has 1 to 4,096 slots, and an instruction begins at the first
  pub some : 0 < slot_count bytes
  pub few : slot_count bytes ≤ 4096
  pub first : is_second bytes 0 ≡ false
  -- at a slot that is no second one an instruction of the table begins
  pub begins : (place : ℕ) → place < slot_count bytes → is_second bytes place ≡ false
      → (o : Operation) × (instruction_at bytes place ≡ Some (instruction o (encoding_at bytes place)))
  -- an instruction leads to later slots of the program, at which an instruction begins
  pub leads : (place : ℕ) (i : Instruction) (next : ℕ) → instruction_at bytes place ≡ Some i → leads place i next ≡ true
      → (place < next) × (next < slot_count bytes) × (is_second bytes next ≡ false)
  -- a jump goes forward
  pub forward : (place : ℕ) (i : Instruction) → instruction_at bytes place ≡ Some i → (uses i.operation).offset ≡ true
      → goes_forward i ≡ true
  -- behind the first slot of a wide instruction stands its second
  pub wide : (place : ℕ) (i : Instruction) → instruction_at bytes place ≡ Some i → is_wide i.operation ≡ true
      → (place + 1 < slot_count bytes) × (is_second bytes (place + 1) ≡ true)
  -- a register that an instruction reads is set on every path to it
  pub read : (place : ℕ) (i : Instruction) (path : List ℕ) (r : ℕ) → instruction_at bytes place ≡ Some i
      → IsPath bytes place path → reads i r ≡ true → is_set bytes path r ≡ true

-- a program without faults is sound
abbrev pub FaultlessIsSound : Type 0
FaultlessIsSound = (bytes : List ℕ) → NoFault bytes → IsSound bytes
