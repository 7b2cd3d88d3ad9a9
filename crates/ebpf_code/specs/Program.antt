-- This project's own: what the slots of an accepted program are.
use Rattle.std.specs.Prelude.{◌≡◌, ℕ, ◌*◌, ◌<◌, ◌≤◌, List, length, slice_get}
use Rattle.ebpf_code.specs.declared.instruction.Slot.{Slot}
use Rattle.ebpf_code.specs.Spelling.{spelling}
use Rattle.ebpf_code.specs.Faults.{NoFault, slot_at}

-- these are the slots of the bytes
pub record AreSlots (bytes : List ℕ) (slots : List Slot) : Type 0 where
  pub aligned : length bytes ≡ 8 * length slots
  pub each : (place : ℕ) → place < length slots → slice_get slots place ≡ slot_at bytes place

-- the slots are those of their bytes, which have no fault
pub record IsProgram (slots : List Slot) : Type 0 where
  pub few : length slots ≤ 4096
  pub read : AreSlots (spelling slots) slots
  pub sound : NoFault (spelling slots)
