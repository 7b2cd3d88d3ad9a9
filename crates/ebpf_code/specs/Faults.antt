-- This project's own: the faults of a program, and which of them is the first.
use Rattle.std.specs.Prelude.{◌≡◌, ◌≢◌, ℕ, zero, suc, ◌+◌, ◌/◌, ◌%◌, ◌<◌, ◌≤◌, ◌⊎◌, List, [], ◌∷◌, length, Option, Some, None, IsSomeAnd, Bool, true, false, not, ◌&&◌, ◌||◌, ◌==◌, nat_lt, nat_le, IsTrue, if◌then◌else◌}
use Rattle.std.specs.Option.{option_map}
use Rattle.ebpf_code.specs.declared.fault.CodeWhy.{CodeWhy}
use Rattle.ebpf_code.specs.declared.fault.CodeWhy.TheVariants.{Length, Opcode, Register, Backward, Beyond, Unset, NoExit, HalfWide, TooMany, Field}
use Rattle.ebpf_code.specs.declared.fault.CodeFault.{CodeFault}
use Rattle.ebpf_code.specs.declared.encoding.Encoding.{Encoding}
use Rattle.ebpf_code.specs.declared.instruction.Instruction.{Instruction}
use Rattle.ebpf_code.specs.declared.instruction.Slot.{Slot}
use Rattle.ebpf_code.specs.declared.instruction.Slot.TheVariants.{Begins, HighHalf}
use Rattle.ebpf_code.specs.Encoding.{encoding_at}
use Rattle.ebpf_code.specs.Instruction.{operation_of, uses, is_wide, is_exit, is_swap, slots_of, instruction, reads, writes, spoils, goes_backward, goes_forward, target, leads}

-- ---- places

-- how many slots there are
abbrev pub slot_count : List ℕ → ℕ
slot_count bytes = length bytes / 8

-- a place is the second slot of a wide instruction where such an instruction begins at the place before it
unfoldable pub is_second : List ℕ → ℕ → Bool
is_second bytes zero = false
is_second bytes (suc place) = (encoding_at bytes place).opcode == 0x18 && not (is_second bytes place)

-- the instruction of a slot with these fields, if its opcode is in the table
abbrev pub instruction_of : Encoding → Option Instruction
instruction_of e = option_map (λ o. instruction o e) (operation_of e.opcode)

-- the instruction that begins at a place, if one does
unfoldable pub instruction_at : List ℕ → ℕ → Option Instruction
instruction_at bytes place =
    if nat_lt place (slot_count bytes) && not (is_second bytes place)
    then instruction_of (encoding_at bytes place)
    else None

-- an instruction begins at a place, and this is so of it
abbrev pub At : List ℕ → ℕ → (Instruction → Type 0) → Type 0
At bytes place P = IsSomeAnd (instruction_at bytes place) P

-- the slot at a place
abbrev pub slot_at : List ℕ → ℕ → Option Slot
slot_at bytes place =
    if is_second bytes place
    then Some (HighHalf (encoding_at bytes place).immediate)
    else option_map Begins (instruction_at bytes place)

-- ---- paths, and the registers that are set on them

-- A path to a place has the places before it, the latest first. It begins at place 0, and each next place is a
-- successor of the one before it with a greater number.
abbrev pub IsPath : List ℕ → ℕ → List ℕ → Type 0
IsPath bytes place [] = place ≡ 0
IsPath bytes place (last ∷ earlier) =
    (last < place) × At bytes last (λ i. IsTrue (leads last i place)) × IsPath bytes last earlier

-- whether a register is set after an instruction, from whether it was set before it
abbrev pub set_after : Option Instruction → Bool → ℕ → Bool
set_after None was r = was
set_after (Some i) was r = if writes i r then true else (if spoils i r then false else was)

-- whether a register is set at the end of a path: the last instruction that writes or spoils it writes it. At the
-- start R1 alone is set.
abbrev pub is_set : List ℕ → List ℕ → ℕ → Bool
is_set bytes [] r = r == 1
is_set bytes (last ∷ earlier) r = set_after (instruction_at bytes last) (is_set bytes earlier r) r

-- ---- faults of one instruction

-- R0 to R9 can be read and written, and a wide instruction has the source 0
abbrev pub misuses_register : Instruction → Bool
misuses_register i =
    (((uses i.operation).reads_destination || (uses i.operation).writes_destination) && nat_le 10 i.destination)
    || ((uses i.operation).source && nat_le 10 i.source)
    || (is_wide i.operation && not (i.source == 0))

-- among this many slots, a jump at the place goes to the end or past it, or a wide instruction has one slot
abbrev pub goes_beyond : ℕ → ℕ → Instruction → Bool
goes_beyond count place i =
    (goes_forward i && nat_le count (target place i)) || (is_wide i.operation && nat_le count (place + 1))

-- it is the last of this many slots, and not the end of the program
abbrev pub lacks_exit : ℕ → ℕ → Instruction → Bool
lacks_exit count place i = not (is_exit i.operation) && nat_le count (place + slots_of i.operation)

-- it jumps to the second slot of a wide instruction
abbrev pub enters_wide : List ℕ → ℕ → Instruction → Bool
enters_wide bytes place i =
    goes_forward i && nat_lt (target place i) (slot_count bytes) && is_second bytes (target place i)

-- a swap is of 16, 32 or 64 bits
abbrev pub is_swap_width : ℕ → Bool
is_swap_width n = n == 16 || n == 32 || n == 64

-- the second slot of a wide instruction has nothing but the high half of the number
abbrev pub is_plain : Encoding → Bool
is_plain e = e.opcode == 0 && e.destination == 0 && e.source == 0 && e.offset == 0

-- a field that isn't used isn't 0, or a swap is of another width
abbrev pub has_stray_field : Instruction → Bool
has_stray_field i =
    (not ((uses i.operation).reads_destination || (uses i.operation).writes_destination) && not (i.destination == 0))
    || (not (uses i.operation).source && not (i.source == 0))
    || (not (uses i.operation).offset && not (i.offset == 0))
    || (not (uses i.operation).immediate && not (i.immediate == 0))
    || (is_swap i.operation && not (is_swap_width i.immediate))

-- it has a field that it can't have, or is wide and the slot after it has one
abbrev pub misuses_field : Instruction → Encoding → Bool
misuses_field i next = has_stray_field i || (is_wide i.operation && not (is_plain next))

-- a register is read that isn't set on some path from the start
abbrev pub ReadsUnset : List ℕ → ℕ → Instruction → Type 0
ReadsUnset bytes place i =
    (r : ℕ) × IsTrue (reads i r) × (earlier : List ℕ) × IsPath bytes place earlier × (is_set bytes earlier r ≡ false)

-- ---- all faults

-- the bytes have this fault at this place
abbrev pub HasFault : List ℕ → ℕ → CodeWhy → Type 0
HasFault bytes place Length = (place ≡ 0) × ((length bytes ≡ 0) ⊎ (length bytes % 8 ≢ 0))
HasFault bytes place Opcode =
    (place < slot_count bytes)
    × (is_second bytes place ≡ false)
    × (operation_of (encoding_at bytes place).opcode ≡ None)
HasFault bytes place Register = At bytes place (λ i. IsTrue (misuses_register i))
HasFault bytes place Backward = At bytes place (λ i. IsTrue (goes_backward i))
HasFault bytes place Beyond = At bytes place (λ i. IsTrue (goes_beyond (slot_count bytes) place i))
HasFault bytes place Unset = At bytes place (ReadsUnset bytes place)
HasFault bytes place NoExit = At bytes place (λ i. IsTrue (lacks_exit (slot_count bytes) place i))
HasFault bytes place HalfWide = At bytes place (λ i. IsTrue (enters_wide bytes place i))
HasFault bytes place TooMany = (place ≡ 4096) × (4096 < slot_count bytes)
HasFault bytes place Field = At bytes place (λ i. IsTrue (misuses_field i (encoding_at bytes (place + 1))))

-- the bytes are a program
abbrev pub NoFault : List ℕ → Type 0
NoFault bytes = (place : ℕ) (why : CodeWhy) → HasFault bytes place why → ⊥

-- no fault is at this place
abbrev pub HasNone : List ℕ → ℕ → Type 0
HasNone bytes place = (why : CodeWhy) → HasFault bytes place why → ⊥

-- the numbers of the faults
abbrev pub number : CodeWhy → ℕ
number Length = 1
number Opcode = 2
number Register = 3
number Backward = 4
number Beyond = 5
number Unset = 6
number NoExit = 7
number HalfWide = 8
number TooMany = 9
number Field = 10

-- Length and TooMany come before all others
abbrev pub turn : CodeWhy → ℕ
turn Length = 0
turn TooMany = 0
turn why = 1

-- a fault comes no later than another: by its turn, then by the place, then by the number
abbrev pub IsNoLater : CodeWhy → ℕ → CodeWhy → ℕ → Type 0
IsNoLater why place other at =
    (turn why < turn other)
    ⊎ ((turn why ≡ turn other) × ((place < at) ⊎ ((place ≡ at) × (number why ≤ number other))))

-- the bytes have this fault, and none that comes before it
abbrev pub IsFirstFault : List ℕ → CodeFault → Type 0
IsFirstFault bytes fault =
    HasFault bytes fault.place fault.why
    × ((place : ℕ) (why : CodeWhy) → HasFault bytes place why → IsNoLater fault.why fault.place why place)

-- of the faults at this place it has the least number
abbrev pub IsLeast : List ℕ → ℕ → CodeWhy → Type 0
IsLeast bytes place why =
    HasFault bytes place why × ((other : CodeWhy) → HasFault bytes place other → number why ≤ number other)
