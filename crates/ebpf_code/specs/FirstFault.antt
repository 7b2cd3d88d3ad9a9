-- This project's own: the first fault as something that computes. What a fault is stands in `Faults.antt`, and that is
-- what a reader has to believe: by a law the fault that is computed here is that one. It goes over the slots once and
-- keeps, for each slot that is ahead, the registers that are set on every path to it so far.
use Rattle.std.specs.Prelude.{◌≡◌, ℕ, zero, suc, ◌+◌, ◌-◌, ◌/◌, ◌%◌, List, [], ◌∷◌, length, map, Option, Some, None, Bool, true, false, not, ◌&&◌, ◌||◌, ◌==◌, ◌↔◌, nat_lt, if◌then◌else◌, slice_index_or}
use Rattle.std.specs.Int.{w16, w32, from_le_bytes}
use Rattle.ebpf_code.specs.declared.fault.CodeWhy.{CodeWhy}
use Rattle.ebpf_code.specs.declared.fault.CodeWhy.TheVariants.{Length, Opcode, Register, Backward, Beyond, Unset, NoExit, HalfWide, TooMany, Field}
use Rattle.ebpf_code.specs.declared.fault.CodeFault.{CodeFault}
use Rattle.ebpf_code.specs.declared.encoding.Encoding.{Encoding}
use Rattle.ebpf_code.specs.declared.instruction.Instruction.{Instruction}
use Rattle.ebpf_code.specs.declared.set.RegisterSet.{RegisterSet}
use Rattle.ebpf_code.specs.Instruction.{falls_through, slots_of, goes_backward, goes_forward}
use Rattle.ebpf_code.specs.Faults.{slot_count, instruction_of, set_after, misuses_register, goes_beyond, lacks_exit, misuses_field, NoFault, IsFirstFault}
use Rattle.ebpf_code.specs.Sets.{holds, kept_lacks}

-- ---- slots

-- the fields of the slots, one slot after another
unfoldable pub fields_of : List ℕ → List Encoding
fields_of (a ∷ b ∷ c ∷ d ∷ e ∷ f ∷ g ∷ h ∷ rest) =
    record {
      opcode = a;
      destination = b % 16;
      source = b / 16;
      offset = from_le_bytes w16 (c ∷ d ∷ []);
      immediate = from_le_bytes w32 (e ∷ f ∷ g ∷ h ∷ []);
    } ∷ fields_of rest
fields_of bytes = []

-- beside each slot, whether it is the second slot of a wide instruction, where the first one is or isn't
unfoldable pub with_seconds : Bool → List Encoding → List (Encoding × Bool)
with_seconds second [] = []
with_seconds second (e ∷ es) = (e, second) ∷ with_seconds (e.opcode == 0x18 && not second) es

-- fields that are all 0
abbrev pub no_fields : Encoding
no_fields = record { opcode = 0; destination = 0; source = 0; offset = 0; immediate = 0 }

-- the slot at a distance
abbrev pub slot_ahead : List (Encoding × Bool) → ℕ → Encoding × Bool
slot_ahead slots n = slice_index_or slots n (no_fields, false)

-- the instruction that begins at a slot, if one does
abbrev pub begun : Encoding → Bool → Option Instruction
begun e true = None
begun e false = instruction_of e

-- ---- sets of registers

-- the registers of which a test holds
abbrev pub set_of : (ℕ → Bool) → RegisterSet
set_of f = record { set = f 0 ∷ f 1 ∷ f 2 ∷ f 3 ∷ f 4 ∷ f 5 ∷ f 6 ∷ f 7 ∷ f 8 ∷ f 9 ∷ f 10 ∷ [] }

-- those that are set at the start
abbrev pub start_set : RegisterSet
start_set = set_of (λ r. r == 1)

-- those that are set after an instruction
abbrev pub set_behind : Instruction → RegisterSet → RegisterSet
set_behind i s = set_of (λ r. set_after (Some i) (holds s r) r)

-- those that are set on the paths so far, and on one more path
abbrev pub met : Option RegisterSet → RegisterSet → RegisterSet
met None s = s
met (Some t) s = set_of (λ r. holds t r && holds s r)

-- a path comes to the slot at a distance with this set
unfoldable pub meet_ahead : ℕ → RegisterSet → List (Option RegisterSet) → List (Option RegisterSet)
meet_ahead n s [] = []
meet_ahead zero s (kept ∷ sets) = Some (met kept s) ∷ sets
meet_ahead (suc n) s (kept ∷ sets) = kept ∷ meet_ahead n s sets

-- a path goes on from an instruction with this set, to the next instruction and to the target of a jump
abbrev pub fallen : Instruction → RegisterSet → List (Option RegisterSet) → List (Option RegisterSet)
fallen i s sets = if falls_through i.operation then meet_ahead (slots_of i.operation - 1) s sets else sets

abbrev pub jumped : Instruction → RegisterSet → List (Option RegisterSet) → List (Option RegisterSet)
jumped i s sets = if goes_forward i then meet_ahead i.offset s sets else sets

-- what is kept for the slots ahead, behind a slot; nothing changes where no instruction begins or no path comes
abbrev pub kept_ahead : Option Instruction → Option RegisterSet → List (Option RegisterSet) → List (Option RegisterSet)
kept_ahead None kept sets = sets
kept_ahead (Some i) None sets = sets
kept_ahead (Some i) (Some s) sets = jumped i (set_behind i s) (fallen i (set_behind i s) sets)

-- what is kept at the start: R1 at the first slot, and no path to any other
abbrev pub kept_at_start : List (Encoding × Bool) → List (Option RegisterSet)
kept_at_start [] = []
kept_at_start (slot ∷ slots) = Some start_set ∷ map (λ s. None) slots

-- ---- the first fault

-- the least fault of an instruction among so many slots, at a place, with these slots behind it
abbrev pub fault_of : ℕ → ℕ → Instruction → List (Encoding × Bool) → Option RegisterSet → Option CodeWhy
fault_of count place i behind kept =
    if misuses_register i then Some Register
    else if goes_backward i then Some Backward
    else if goes_beyond count place i then Some Beyond
    else if kept_lacks kept i then Some Unset
    else if lacks_exit count place i then Some NoExit
    else if goes_forward i && (slot_ahead behind i.offset).1 then Some HalfWide
    else if misuses_field i (slot_ahead behind 0).0 then Some Field
    else None

-- the same where the opcode may be none of the table's
abbrev pub fault_at_first : ℕ → ℕ → Option Instruction → List (Encoding × Bool) → Option RegisterSet → Option CodeWhy
fault_at_first count place None behind kept = Some Opcode
fault_at_first count place (Some i) behind kept = fault_of count place i behind kept

-- the same of a slot; the second slot of a wide instruction has none
abbrev pub fault_at : ℕ → ℕ → Encoding → Bool → List (Encoding × Bool) → Option RegisterSet → Option CodeWhy
fault_at count place e true behind kept = None
fault_at count place e false behind kept = fault_at_first count place (instruction_of e) behind kept

-- a fault at a place, or a later one
abbrev pub or_later : ℕ → Option CodeWhy → Option CodeFault → Option CodeFault
or_later place None later = later
or_later place (Some why) later = Some (record { why = why; place = place })

-- the first fault among the slots from a place on
unfoldable pub fault_from : ℕ → ℕ → List (Encoding × Bool) → List (Option RegisterSet) → Option CodeFault
fault_from count place [] sets = None
fault_from count place (slot ∷ behind) [] = None
fault_from count place (slot ∷ behind) (kept ∷ sets) =
    or_later place (fault_at count place slot.0 slot.1 behind kept)
    (fault_from count (place + 1) behind (kept_ahead (begun slot.0 slot.1) kept sets))

-- the slots of the bytes
abbrev pub slots_in : List ℕ → List (Encoding × Bool)
slots_in bytes = with_seconds false (fields_of bytes)

-- the first fault of the bytes, if they have one
unfoldable pub first_fault : List ℕ → Option CodeFault
first_fault bytes =
    if length bytes == 0 || not (length bytes % 8 == 0) then Some (record { why = Length; place = 0 })
    else if nat_lt 4096 (slot_count bytes) then Some (record { why = TooMany; place = 4096 })
    else fault_from (slot_count bytes) 0 (slots_in bytes) (kept_at_start (slots_in bytes))

-- ---- the law

-- it is the first fault
abbrev pub FirstFaultIsFirst : Type 0
FirstFaultIsFirst = (bytes : List ℕ) (fault : CodeFault) → (first_fault bytes ≡ Some fault) ↔ IsFirstFault bytes fault

-- there is none exactly where the bytes have no fault
abbrev pub NoneIsNoFault : Type 0
NoneIsNoFault = (bytes : List ℕ) → (first_fault bytes ≡ None) ↔ NoFault bytes
