-- RFC 9669, 4.1 to 4.3: what arithmetic, byte swaps and conditions compute. Numbers are those of the bits.
use Rattle.std.specs.Prelude.{ℕ, ◌+◌, ◌-◌, ◌*◌, ◌/◌, ◌%◌, ◌^◌, Bool, not, ◌==◌, nat_lt, nat_le, if◌then◌else◌, bit_and, bit_or, bit_xor, int_lt, int_le}
use Rattle.std.specs.Int.{Width as IntegerWidth, w16, w32, w64, cast_signed, cast_unsigned, swap_bytes}
use Rattle.std.specs.Int.Signed.{shr_z}
use Rattle.ebpf_code.specs.declared.operation.Width.{Width}
use Rattle.ebpf_code.specs.declared.operation.Width.TheVariants.{Bits64, Bits32}
use Rattle.ebpf_code.specs.declared.operation.Arithmetic.{Arithmetic}
use Rattle.ebpf_code.specs.declared.operation.Arithmetic.TheVariants.{Add, Subtract, Multiply, Divide, Or, And, ShiftLeft, ShiftRight, Modulo, Xor, Move, ShiftRightSigned}
use Rattle.ebpf_code.specs.declared.operation.Condition.{Condition}
use Rattle.ebpf_code.specs.declared.operation.Condition.TheVariants.{Equal, Above, AboveOrEqual, CommonBits, NotEqual, SignedAbove, SignedAboveOrEqual, Below, BelowOrEqual, SignedBelow, SignedBelowOrEqual}
use Rattle.ebpf_code.specs.declared.operation.ByteOrder.{ByteOrder}
use Rattle.ebpf_code.specs.declared.operation.ByteOrder.TheVariants.{Little, Big}

-- the low half of a register
abbrev pub low_half : ℕ → ℕ
low_half x = x % 2 ^ 32

-- 4.1 on 64 bits: results wrap, division is unsigned, and shifts take the low 6 bits of their count
abbrev pub calculated_64 : Arithmetic → ℕ → ℕ → ℕ
calculated_64 Add x y = (x + y) % 2 ^ 64
calculated_64 Subtract x y = (x + (2 ^ 64 - y)) % 2 ^ 64
calculated_64 Multiply x y = (x * y) % 2 ^ 64
calculated_64 Divide x y = if y == 0 then 0 else x / y
calculated_64 Or x y = bit_or x y
calculated_64 And x y = bit_and x y
calculated_64 ShiftLeft x y = (x * 2 ^ (y % 64)) % 2 ^ 64
calculated_64 ShiftRight x y = x / 2 ^ (y % 64)
calculated_64 Modulo x y = if y == 0 then x else x % y
calculated_64 Xor x y = bit_xor x y
calculated_64 Move x y = y
calculated_64 ShiftRightSigned x y = cast_unsigned w64 (shr_z (cast_signed w64 x) (2 ^ (y % 64)))

-- 4.1 on 32 bits: the same of 32 bits, and shifts take the low 5 bits of their count
abbrev pub calculated_32 : Arithmetic → ℕ → ℕ → ℕ
calculated_32 Add x y = (x + y) % 2 ^ 32
calculated_32 Subtract x y = (x + (2 ^ 32 - y)) % 2 ^ 32
calculated_32 Multiply x y = (x * y) % 2 ^ 32
calculated_32 Divide x y = if y == 0 then 0 else x / y
calculated_32 Or x y = bit_or x y
calculated_32 And x y = bit_and x y
calculated_32 ShiftLeft x y = (x * 2 ^ (y % 32)) % 2 ^ 32
calculated_32 ShiftRight x y = x / 2 ^ (y % 32)
calculated_32 Modulo x y = if y == 0 then x else x % y
calculated_32 Xor x y = bit_xor x y
calculated_32 Move x y = y
calculated_32 ShiftRightSigned x y = cast_unsigned w32 (shr_z (cast_signed w32 x) (2 ^ (y % 32)))

-- on 32 bits the low halves are the operands, and the upper half of the result is 0
abbrev pub calculated : Width → Arithmetic → ℕ → ℕ → ℕ
calculated Bits64 a x y = calculated_64 a x y
calculated Bits32 a x y = calculated_32 a (low_half x) (low_half y)

-- 4.1: NEG
abbrev pub negated : Width → ℕ → ℕ
negated Bits64 x = (2 ^ 64 - x) % 2 ^ 64
negated Bits32 x = (2 ^ 32 - low_half x) % 2 ^ 32

-- 4.2: the low 16, 32 or 64 bits, in the order of the bytes
abbrev pub swapped : ByteOrder → ℕ → ℕ → ℕ
swapped Little bits x = if bits == 16 then x % 2 ^ 16 else (if bits == 32 then x % 2 ^ 32 else x)
swapped Big bits x =
    if bits == 16 then swap_bytes w16 (x % 2 ^ 16)
    else (if bits == 32 then swap_bytes w32 (x % 2 ^ 32) else swap_bytes w64 x)

-- 4.3: a condition of numbers of some width, which are signed where it says so
abbrev pub compared : IntegerWidth → Condition → ℕ → ℕ → Bool
compared w Equal x y = x == y
compared w Above x y = nat_lt y x
compared w AboveOrEqual x y = nat_le y x
compared w CommonBits x y = not (bit_and x y == 0)
compared w NotEqual x y = not (x == y)
compared w SignedAbove x y = int_lt (cast_signed w y) (cast_signed w x)
compared w SignedAboveOrEqual x y = int_le (cast_signed w y) (cast_signed w x)
compared w Below x y = nat_lt x y
compared w BelowOrEqual x y = nat_le x y
compared w SignedBelow x y = int_lt (cast_signed w x) (cast_signed w y)
compared w SignedBelowOrEqual x y = int_le (cast_signed w x) (cast_signed w y)

-- whether a conditional jump is taken
abbrev pub is_met : Width → Condition → ℕ → ℕ → Bool
is_met Bits64 c x y = compared w64 c x y
is_met Bits32 c x y = compared w32 c (low_half x) (low_half y)
