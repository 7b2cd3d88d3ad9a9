-- This project's own: the machine's numbers against the registers of the meaning.
use Rattle.std.specs.Prelude.{◌≡◌, ℕ, List, Option, Some, IfSome, slice_index}
use Rattle.ebpf_run.specs.declared.machine.Next.{Next}
use Rattle.ebpf_run.specs.declared.machine.Next.TheVariants.{At, End}
use Rattle.ebpf_code.specs.declared.operation.Operation.{Operation}
use Rattle.ebpf_code.specs.declared.instruction.Instruction.{Instruction}
use Rattle.ebpf_run.specs.Meaning.{Registers, Outcome, Goes, Ends, Stuck, act}

-- the machine has the number of each register that is set
abbrev pub Holds : List ℕ → Registers → Type 0
Holds numbers registers = (r value : ℕ) → registers r ≡ Some value → slice_index numbers r ≡ value

-- the machine does what the meaning says; where that is stuck it may do anything
abbrev pub Follows : Outcome → Next → List ℕ → Type 0
Follows (Goes place registers) (At next) numbers = (next ≡ place) × Holds numbers registers
Follows (Goes place registers) (End result) numbers = ⊥
Follows (Ends result) (End number) numbers = number ≡ result
Follows (Ends result) (At next) numbers = ⊥
Follows Stuck next numbers = Unit {0}

-- with the old numbers the machine does an instruction, which leads next, with the new numbers
abbrev pub Acts : Operation → Instruction → List ℕ → List ℕ → ℕ → List ℕ → Next → List ℕ → Type 0
Acts operation i program frame place old next new =
    (g : Registers) → Holds old g → Follows (act operation i program frame place g) next new

-- the machine has what is read, if that is set
abbrev pub Reads : Option ℕ → ℕ → Type 0
Reads o x = IfSome o (λ value. x ≡ value)
