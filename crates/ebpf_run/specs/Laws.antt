-- This project's own: a program without faults is never stuck.
use Rattle.std.specs.Prelude.{◌≡◌, ℕ, ◌≤◌, List}
use Rattle.ebpf_code.specs.Faults.{NoFault}
use Rattle.ebpf_run.specs.Meaning.{Registers, Stuck, start, step, EndsAfter, GoesForward, Reaches, instruction_count}

-- on each frame it ends, with at most as many steps as it has instructions
abbrev pub ProgramsEnd : Type 0
ProgramsEnd = (program frame : List ℕ)
    → NoFault program
    → (steps result : ℕ) × (steps ≤ instruction_count program) × EndsAfter program frame steps 0 (start frame) result

-- no place that it reaches is stuck
abbrev pub ProgramsNeverStick : Type 0
ProgramsNeverStick = (program frame : List ℕ) (steps place : ℕ) (registers : Registers)
    → NoFault program
    → Reaches program frame steps place registers
    → step program frame place registers ≡ Stuck
    → ⊥

-- it goes only forward
abbrev pub ProgramsGoForward : Type 0
ProgramsGoForward = (program frame : List ℕ) (place : ℕ) (registers : Registers)
    → NoFault program
    → GoesForward program frame place registers
