-- The machine's step against the meaning's.
use Rattle.std.proofs.Common.{◌≡◌, ℕ, ◌+◌, List, Option, Some, None, refl, sym, ap, ◌∙◌, subst}
use Rattle.ebpf_code.specs.declared.operation.Width.{Width}
use Rattle.ebpf_code.specs.declared.operation.Width.TheVariants.{Bits64, Bits32}
use Rattle.ebpf_code.specs.declared.operation.Arithmetic.{Arithmetic}
use Rattle.ebpf_code.specs.declared.operation.Arithmetic.TheVariants.{Add, Subtract, Multiply, Divide, Or, And, ShiftLeft, ShiftRight, Modulo, Xor, Move, ShiftRightSigned}
use Rattle.ebpf_code.specs.declared.instruction.Instruction.{Instruction}
use Rattle.ebpf_run.specs.declared.machine.Next.{Next}
use Rattle.ebpf_run.specs.declared.machine.Next.TheVariants.{At}
use Rattle.ebpf_run.specs.Calculation.{low_half, calculated}
use Rattle.ebpf_run.specs.Meaning.{Registers, Outcome, Goes, Stuck, with_value, left, low_sum}
use Rattle.ebpf_run.specs.Machine.{Holds, Follows, Reads}

-- a number that is read
pub follow_value : (o : Option ℕ) (x : ℕ) (go : ℕ → Outcome) (next : Next) (numbers : List ℕ) → Reads o x → Follows (go x) next numbers → Follows (with_value o go) next numbers
follow_value None x go next numbers reads f = tt
follow_value (Some v) x go next numbers reads f = subst (λ y. Follows (go y) next numbers) reads f

-- a move doesn't look at the first operand
move_same : (w : Width) (x y : ℕ) → calculated w Move 0 y ≡ calculated w Move x y
move_same Bits64 x y = refl
move_same Bits32 x y = refl

-- the first operand of a calculation
pub follow_left : (w : Width) (a : Arithmetic) (i : Instruction) (g : Registers) (x y : ℕ) (go : ℕ → Outcome) (next : Next) (numbers : List ℕ) → Reads (g i.destination) x → Follows (go (calculated w a x y)) next numbers → Follows (with_value (left a i g) (λ z. go (calculated w a z y))) next numbers
follow_left w Add i g x y go next numbers reads f = follow_value (g i.destination) x (λ z. go (calculated w Add z y)) next numbers reads f
follow_left w Subtract i g x y go next numbers reads f = follow_value (g i.destination) x (λ z. go (calculated w Subtract z y)) next numbers reads f
follow_left w Multiply i g x y go next numbers reads f = follow_value (g i.destination) x (λ z. go (calculated w Multiply z y)) next numbers reads f
follow_left w Divide i g x y go next numbers reads f = follow_value (g i.destination) x (λ z. go (calculated w Divide z y)) next numbers reads f
follow_left w Or i g x y go next numbers reads f = follow_value (g i.destination) x (λ z. go (calculated w Or z y)) next numbers reads f
follow_left w And i g x y go next numbers reads f = follow_value (g i.destination) x (λ z. go (calculated w And z y)) next numbers reads f
follow_left w ShiftLeft i g x y go next numbers reads f = follow_value (g i.destination) x (λ z. go (calculated w ShiftLeft z y)) next numbers reads f
follow_left w ShiftRight i g x y go next numbers reads f = follow_value (g i.destination) x (λ z. go (calculated w ShiftRight z y)) next numbers reads f
follow_left w Modulo i g x y go next numbers reads f = follow_value (g i.destination) x (λ z. go (calculated w Modulo z y)) next numbers reads f
follow_left w Xor i g x y go next numbers reads f = follow_value (g i.destination) x (λ z. go (calculated w Xor z y)) next numbers reads f
follow_left w Move i g x y go next numbers reads f = subst (λ z. Follows (go z) next numbers) (sym (move_same w x y)) f
follow_left w ShiftRightSigned i g x y go next numbers reads f = follow_value (g i.destination) x (λ z. go (calculated w ShiftRightSigned z y)) next numbers reads f

-- the two operands of a calculation
pub follow_both : (w : Width) (a : Arithmetic) (i : Instruction) (g : Registers) (x y : ℕ) (o : Option ℕ) (go : ℕ → Outcome) (next : Next) (numbers : List ℕ) → Reads (g i.destination) x → Reads o y → Follows (go (calculated w a x y)) next numbers → Follows (with_value (left a i g) (λ z. with_value o (λ v. go (calculated w a z v)))) next numbers
follow_both w a i g x y None go next numbers reads_x reads_y f = nothing (left a i g)
  where
    nothing : (o : Option ℕ) → Follows (with_value o (λ z. Stuck)) next numbers
    nothing None = tt
    nothing (Some z) = tt
follow_both w a i g x y (Some v) go next numbers reads_x reads_y f =
    follow_left w a i g x v go next numbers reads_x (subst (λ u. Follows (go (calculated w a x u)) next numbers) reads_y f)

pub reads_sum : (n x r : ℕ) (o : Option ℕ) → Reads o x → r ≡ low_half (n + low_half x) → Reads (low_sum n o) r
reads_sum n x r None reads e = tt
reads_sum n x r (Some v) reads e = e ∙ ap (λ y. low_half (n + low_half y)) reads

pub follow_goes : (p q : ℕ) (g : Registers) (numbers : List ℕ) → q ≡ p → Holds numbers g → Follows (Goes p g) (At q) numbers
follow_goes p q g numbers e h = (e, h)
