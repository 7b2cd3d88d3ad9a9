-- A decoded step does what the meaning says of its instruction.
use Rattle.std.proofs.Common.{◌≡◌, ℕ, ◌+◌, ◌*◌, ◌%◌, ◌^◌, ◌<◌, List, length, get_or, Bool, true, false, Option, Some, None, refl, sym, ap, ◌∙◌, subst, arith}
use Rattle.std.proofs.lemmas.Bool.{cond-true, cond-false}
use Rattle.std.proofs.lemmas.Option.{same_Some, none-some, slice_get-get_or}
use Rattle.std.specs.Int.{w16, w32, w64, swap_bytes}
use Rattle.std.specs.Prelude.{if◌then◌else◌, ◌==◌, slice_index, nat_le, ◌&&◌}
use Rattle.ebpf_code.specs.declared.operation.Width.{Width}
use Rattle.ebpf_code.specs.declared.operation.Source.{Source}
use Rattle.ebpf_code.specs.declared.operation.Arithmetic.{Arithmetic}
use Rattle.ebpf_code.specs.declared.operation.Condition.{Condition}
use Rattle.ebpf_code.specs.declared.operation.ByteOrder.{ByteOrder}
use Rattle.ebpf_code.specs.declared.operation.LoadMode.{LoadMode}
use Rattle.ebpf_code.specs.declared.operation.LoadSize.{LoadSize}
use Rattle.ebpf_code.specs.declared.operation.Operation.{Operation}
use Rattle.ebpf_code.specs.declared.operation.Width.TheVariants.{Bits64, Bits32}
use Rattle.ebpf_code.specs.declared.operation.Source.TheVariants as source
use Rattle.ebpf_code.specs.declared.operation.Arithmetic.TheVariants.{Add, Subtract, Multiply, Divide, Or, And, ShiftLeft, ShiftRight, Modulo, Xor, Move, ShiftRightSigned}
use Rattle.ebpf_code.specs.declared.operation.Condition.TheVariants.{Equal, Above, AboveOrEqual, CommonBits, NotEqual, SignedAbove, SignedAboveOrEqual, Below, BelowOrEqual, SignedBelow, SignedBelowOrEqual}
use Rattle.ebpf_code.specs.declared.operation.ByteOrder.TheVariants.{Little, Big}
use Rattle.ebpf_code.specs.declared.operation.LoadMode.TheVariants.{Absolute, Indirect}
use Rattle.ebpf_code.specs.declared.operation.LoadSize.TheVariants.{Word, Half, Byte}
use Rattle.ebpf_code.specs.declared.operation.Operation.TheVariants.{Calculate, Negate, SwapBytes, LoadImmediate, LoadFrame, Jump, Branch, Exit}
use Rattle.ebpf_code.specs.declared.instruction.Instruction.{Instruction}
use Rattle.ebpf_code.specs.declared.step.Code.TheVariants as code
use Rattle.ebpf_code.specs.declared.step.Step.{Step}
use Rattle.ebpf_code.specs.Encoding.{encoding_at}
use Rattle.ebpf_code.specs.Instruction.{target, instruction}
use Rattle.ebpf_code.specs.Faults.{slot_count, is_second}
use Rattle.ebpf_code.specs.Sound.{IsSound}
use Rattle.ebpf_code.specs.Step.{calculation_code, branch_code, load_code, code_of, sign_extended, step_with, step_of, AreSteps}
use Rattle.ebpf_run.specs.declared.calculation.Effect.TheVariants as effects
use Rattle.ebpf_run.specs.declared.machine.Next.{Next}
use Rattle.ebpf_run.specs.declared.machine.Next.TheVariants.{At}
use Rattle.ebpf_run.specs.Calculation.{low_half, calculated, negated, swapped, is_met}
use Rattle.ebpf_run.specs.Meaning.{Registers, write, spoil, operand, index_of, number_at, Goes, Ends, with_value, loaded, act_at, step}
use Rattle.ebpf_run.specs.Machine.{Holds, Follows, Reads, Acts}
use Rattle.ebpf_run.specs.Step.{effect_of, IsLoaded, Does, DoesStep}
use Rattle.ebpf_run.proofs.Follow.{follow_value, follow_both, reads_sum, follow_goes}

-- ---- codes

-- the second operand: the number, or the one in the register
abbrev from_source : Source → ℕ → ℕ → ℕ
from_source source.Immediate y n = n
from_source source.Register y n = y

-- a calculation by its code
calculation_effect : (w : Width) (a : Arithmetic) (s : Source) (x y n : ℕ) → effect_of (calculation_code w a s) x y n ≡ effects.Write (calculated w a x (from_source s y n))
calculation_effect Bits64 Add source.Immediate x y n = refl
calculation_effect Bits64 Subtract source.Immediate x y n = refl
calculation_effect Bits64 Multiply source.Immediate x y n = refl
calculation_effect Bits64 Divide source.Immediate x y n = refl
calculation_effect Bits64 Or source.Immediate x y n = refl
calculation_effect Bits64 And source.Immediate x y n = refl
calculation_effect Bits64 ShiftLeft source.Immediate x y n = refl
calculation_effect Bits64 ShiftRight source.Immediate x y n = refl
calculation_effect Bits64 Modulo source.Immediate x y n = refl
calculation_effect Bits64 Xor source.Immediate x y n = refl
calculation_effect Bits64 Move source.Immediate x y n = refl
calculation_effect Bits64 ShiftRightSigned source.Immediate x y n = refl
calculation_effect Bits64 Add source.Register x y n = refl
calculation_effect Bits64 Subtract source.Register x y n = refl
calculation_effect Bits64 Multiply source.Register x y n = refl
calculation_effect Bits64 Divide source.Register x y n = refl
calculation_effect Bits64 Or source.Register x y n = refl
calculation_effect Bits64 And source.Register x y n = refl
calculation_effect Bits64 ShiftLeft source.Register x y n = refl
calculation_effect Bits64 ShiftRight source.Register x y n = refl
calculation_effect Bits64 Modulo source.Register x y n = refl
calculation_effect Bits64 Xor source.Register x y n = refl
calculation_effect Bits64 Move source.Register x y n = refl
calculation_effect Bits64 ShiftRightSigned source.Register x y n = refl
calculation_effect Bits32 Add source.Immediate x y n = refl
calculation_effect Bits32 Subtract source.Immediate x y n = refl
calculation_effect Bits32 Multiply source.Immediate x y n = refl
calculation_effect Bits32 Divide source.Immediate x y n = refl
calculation_effect Bits32 Or source.Immediate x y n = refl
calculation_effect Bits32 And source.Immediate x y n = refl
calculation_effect Bits32 ShiftLeft source.Immediate x y n = refl
calculation_effect Bits32 ShiftRight source.Immediate x y n = refl
calculation_effect Bits32 Modulo source.Immediate x y n = refl
calculation_effect Bits32 Xor source.Immediate x y n = refl
calculation_effect Bits32 Move source.Immediate x y n = refl
calculation_effect Bits32 ShiftRightSigned source.Immediate x y n = refl
calculation_effect Bits32 Add source.Register x y n = refl
calculation_effect Bits32 Subtract source.Register x y n = refl
calculation_effect Bits32 Multiply source.Register x y n = refl
calculation_effect Bits32 Divide source.Register x y n = refl
calculation_effect Bits32 Or source.Register x y n = refl
calculation_effect Bits32 And source.Register x y n = refl
calculation_effect Bits32 ShiftLeft source.Register x y n = refl
calculation_effect Bits32 ShiftRight source.Register x y n = refl
calculation_effect Bits32 Modulo source.Register x y n = refl
calculation_effect Bits32 Xor source.Register x y n = refl
calculation_effect Bits32 Move source.Register x y n = refl
calculation_effect Bits32 ShiftRightSigned source.Register x y n = refl

-- a conditional jump by its code
branch_effect : (w : Width) (c : Condition) (s : Source) (x y n : ℕ) → effect_of (branch_code w c s) x y n ≡ effects.Jump (is_met w c x (from_source s y n))
branch_effect Bits64 Equal source.Immediate x y n = refl
branch_effect Bits64 Above source.Immediate x y n = refl
branch_effect Bits64 AboveOrEqual source.Immediate x y n = refl
branch_effect Bits64 CommonBits source.Immediate x y n = refl
branch_effect Bits64 NotEqual source.Immediate x y n = refl
branch_effect Bits64 SignedAbove source.Immediate x y n = refl
branch_effect Bits64 SignedAboveOrEqual source.Immediate x y n = refl
branch_effect Bits64 Below source.Immediate x y n = refl
branch_effect Bits64 BelowOrEqual source.Immediate x y n = refl
branch_effect Bits64 SignedBelow source.Immediate x y n = refl
branch_effect Bits64 SignedBelowOrEqual source.Immediate x y n = refl
branch_effect Bits64 Equal source.Register x y n = refl
branch_effect Bits64 Above source.Register x y n = refl
branch_effect Bits64 AboveOrEqual source.Register x y n = refl
branch_effect Bits64 CommonBits source.Register x y n = refl
branch_effect Bits64 NotEqual source.Register x y n = refl
branch_effect Bits64 SignedAbove source.Register x y n = refl
branch_effect Bits64 SignedAboveOrEqual source.Register x y n = refl
branch_effect Bits64 Below source.Register x y n = refl
branch_effect Bits64 BelowOrEqual source.Register x y n = refl
branch_effect Bits64 SignedBelow source.Register x y n = refl
branch_effect Bits64 SignedBelowOrEqual source.Register x y n = refl
branch_effect Bits32 Equal source.Immediate x y n = refl
branch_effect Bits32 Above source.Immediate x y n = refl
branch_effect Bits32 AboveOrEqual source.Immediate x y n = refl
branch_effect Bits32 CommonBits source.Immediate x y n = refl
branch_effect Bits32 NotEqual source.Immediate x y n = refl
branch_effect Bits32 SignedAbove source.Immediate x y n = refl
branch_effect Bits32 SignedAboveOrEqual source.Immediate x y n = refl
branch_effect Bits32 Below source.Immediate x y n = refl
branch_effect Bits32 BelowOrEqual source.Immediate x y n = refl
branch_effect Bits32 SignedBelow source.Immediate x y n = refl
branch_effect Bits32 SignedBelowOrEqual source.Immediate x y n = refl
branch_effect Bits32 Equal source.Register x y n = refl
branch_effect Bits32 Above source.Register x y n = refl
branch_effect Bits32 AboveOrEqual source.Register x y n = refl
branch_effect Bits32 CommonBits source.Register x y n = refl
branch_effect Bits32 NotEqual source.Register x y n = refl
branch_effect Bits32 SignedAbove source.Register x y n = refl
branch_effect Bits32 SignedAboveOrEqual source.Register x y n = refl
branch_effect Bits32 Below source.Register x y n = refl
branch_effect Bits32 BelowOrEqual source.Register x y n = refl
branch_effect Bits32 SignedBelow source.Register x y n = refl
branch_effect Bits32 SignedBelowOrEqual source.Register x y n = refl

-- a change of the sign by its code
negate_effect : (w : Width) (m x y n : ℕ) → effect_of (code_of (Negate w) m) x y n ≡ effects.Write (negated w x)
negate_effect Bits64 m x y n = refl
negate_effect Bits32 m x y n = refl

-- a swap by its code
swap_effect : (o : ByteOrder) (m x y n : ℕ) → effect_of (code_of (SwapBytes o) m) x y n ≡ effects.Write (swapped o m x)
swap_effect Little m x y n = go (m == 16) (m == 32)
  where
    go : (a b : Bool) → effect_of (if a then code.Truncate16 else (if b then code.Truncate32 else code.Truncate64)) x y n ≡ effects.Write (if a then x % 2 ^ 16 else (if b then x % 2 ^ 32 else x))
    go true b = refl
    go false true = refl
    go false false = refl
swap_effect Big m x y n = go (m == 16) (m == 32)
  where
    go : (a b : Bool) → effect_of (if a then code.Reverse16 else (if b then code.Reverse32 else code.Reverse64)) x y n ≡ effects.Write (if a then swap_bytes w16 (x % 2 ^ 16) else (if b then swap_bytes w32 (x % 2 ^ 32) else swap_bytes w64 x))
    go true b = refl
    go false true = refl
    go false false = refl

low_low : (n m : ℕ) → low_half (low_half n + m) ≡ low_half (n + m)
low_low n m = omega arith

-- where a load begins, from the register that is added
abbrev from_index : LoadMode → ℕ → ℕ → ℕ
from_index Absolute y n = n
from_index Indirect y n = low_half (low_half n + low_half y)

-- a load by its code
load_effect : (m : LoadMode) (z : LoadSize) (x y n : ℕ) → effect_of (load_code m z) x y n ≡ effects.Load z (from_index m y n)
load_effect Absolute Word x y n = refl
load_effect Absolute Half x y n = refl
load_effect Absolute Byte x y n = refl
load_effect Indirect Word x y n = refl
load_effect Indirect Half x y n = refl
load_effect Indirect Byte x y n = refl

-- ---- registers

-- the machine has what a register is read as
reads_register : (old : List ℕ) (g : Registers) → Holds old g → (r : ℕ) → Reads (g r) (slice_index old r)
reads_register old g holds r = go (g r) refl
  where
    go : (o : Option ℕ) → g r ≡ o → Reads o (slice_index old r)
    go None e = tt
    go (Some v) e = holds r v e

-- what is held is held where fewer registers are set
holds_spoilt : (old : List ℕ) (g : Registers) → Holds old g → Holds old (spoil g)
holds_spoilt old g holds r v e = go (nat_le 1 r && nat_le r 5) refl
  where
    go : (b : Bool) → (nat_le 1 r && nat_le r 5) ≡ b → slice_index old r ≡ v
    go true s = absurd (none-some v (sym (cond-true (nat_le 1 r && nat_le r 5) None (g r) s) ∙ e))
    go false s = holds r v (sym (cond-false (nat_le 1 r && nat_le r 5) None (g r) s) ∙ e)

-- ---- effects

-- a number is written
does_write : (s : Step) (frame : List ℕ) (place d v : ℕ) (old : List ℕ) (next : Next) (new : List ℕ) (g : Registers) → d ≡ s.first → Holds old g → Does (effects.Write v) s frame place old next new → Follows (Goes (place + 1) (write g d v)) next new
does_write s frame place d v old next new g e holds does =
    subst (λ n. Follows (Goes (place + 1) (write g d v)) n new) (sym does.0)
    (follow_goes (place + 1) (place + 1) (write g d v) new refl (subst (λ r. Holds new (write g r v)) (sym e) (does.1 g holds)))

does_load : (o : Option ℕ) (place : ℕ) (old : List ℕ) (next : Next) (new : List ℕ) (g : Registers) → Holds old g → IsLoaded o place old next new → Follows (loaded o place g) next new
does_load None place old next new g holds does = subst (λ n. Follows (Ends 0) n new) (sym does) refl
does_load (Some x) place old next new g holds does =
    subst (λ n. Follows (Goes (place + 1) (write (spoil g) 0 x)) n new) (sym does.0)
    (follow_goes (place + 1) (place + 1) (write (spoil g) 0 x) new refl (does.1 (spoil g) (holds_spoilt old g holds)))

does_jump : (place offset : ℕ) (b : Bool) (old : List ℕ) (next : Next) (new : List ℕ) (g : Registers) → Holds old g → (next ≡ At (place + (if b then 1 + offset else 1))) × (new ≡ old) → Follows (Goes (if b then place + 1 + offset else place + 1) g) next new
does_jump place offset true old next new g holds does =
    subst (λ n. Follows (Goes (place + 1 + offset) g) n new) (sym does.0)
    (follow_goes (place + 1 + offset) (place + (1 + offset)) g new (omega arith) (subst (λ m. Holds m g) (sym does.1) holds))
does_jump place offset false old next new g holds does =
    subst (λ n. Follows (Goes (place + 1) g) n new) (sym does.0)
    (follow_goes (place + 1) (place + 1) g new refl (subst (λ m. Holds m g) (sym does.1) holds))

-- the second operand
reads_second : (s : Source) (i : Instruction) (old : List ℕ) (g : Registers) → Holds old g → Reads (operand s i g) (from_source s (slice_index old i.source) (sign_extended i.immediate))
reads_second source.Immediate i old g holds = refl
reads_second source.Register i old g holds = reads_register old g holds i.source

reads_index : (m : LoadMode) (i : Instruction) (old : List ℕ) (g : Registers) → Holds old g → Reads (index_of m i g) (from_index m (slice_index old i.source) i.immediate)
reads_index Absolute i old g holds = refl
reads_index Indirect i old g holds =
    reads_sum i.immediate (slice_index old i.source) _ (g i.source) (reads_register old g holds i.source) (low_low i.immediate (low_half (slice_index old i.source)))

-- ---- steps

-- a step does its instruction
pub does_acts : (o : Operation) (i : Instruction) (program frame : List ℕ) (place : ℕ) (old : List ℕ) (next : Next) (new : List ℕ) → DoesStep (step_with o i (encoding_at program (place + 1)).immediate) frame place old next new → Acts o i program frame place old next new
does_acts (Calculate w a s) i program frame place old next new does = λ g holds.
    let x = slice_index old i.destination in
    let y = from_source s (slice_index old i.source) (sign_extended i.immediate) in
    let t = step_with (Calculate w a s) i (encoding_at program (place + 1)).immediate in
    follow_both w a i g x y (operand s i g) (λ v. Goes (place + 1) (write g i.destination v)) next new (reads_register old g holds i.destination) (reads_second s i old g holds)
    (does_write t frame place i.destination (calculated w a x y) old next new g refl holds (subst (λ e. Does e t frame place old next new) (calculation_effect w a s x (slice_index old i.source) (sign_extended i.immediate)) does))
does_acts (Negate w) i program frame place old next new does = λ g holds.
    let x = slice_index old i.destination in
    let t = step_with (Negate w) i (encoding_at program (place + 1)).immediate in
    follow_value (g i.destination) x (λ v. Goes (place + 1) (write g i.destination (negated w v))) next new (reads_register old g holds i.destination)
    (does_write t frame place i.destination (negated w x) old next new g refl holds (subst (λ e. Does e t frame place old next new) (negate_effect w i.immediate x _ _) does))
does_acts (SwapBytes o) i program frame place old next new does = λ g holds.
    let x = slice_index old i.destination in
    let t = step_with (SwapBytes o) i (encoding_at program (place + 1)).immediate in
    follow_value (g i.destination) x (λ v. Goes (place + 1) (write g i.destination (swapped o i.immediate v))) next new (reads_register old g holds i.destination)
    (does_write t frame place i.destination (swapped o i.immediate x) old next new g refl holds (subst (λ e. Does e t frame place old next new) (swap_effect o i.immediate x _ _) does))
does_acts LoadImmediate i program frame place old next new does = λ g holds.
    let v : ℕ = i.immediate + 2 ^ 32 * (encoding_at program (place + 1)).immediate in
    subst (λ n. Follows (Goes (place + 2) (write g i.destination v)) n new) (sym does.0)
    (follow_goes (place + 2) (place + 2) (write g i.destination v) new refl (does.1 g holds))
does_acts (LoadFrame m z) i program frame place old next new does = λ g holds.
    let x = from_index m (slice_index old i.source) i.immediate in
    let t = step_with (LoadFrame m z) i (encoding_at program (place + 1)).immediate in
    follow_value (index_of m i g) x (λ index. loaded (number_at frame index z) place g) next new (reads_index m i old g holds)
    (does_load (number_at frame x z) place old next new g holds (subst (λ e. Does e t frame place old next new) (load_effect m z _ (slice_index old i.source) i.immediate) does))
does_acts Jump i program frame place old next new does = λ g holds. does_jump place i.offset true old next new g holds does
does_acts (Branch w c s) i program frame place old next new does = λ g holds.
    let x = slice_index old i.destination in
    let y = from_source s (slice_index old i.source) (sign_extended i.immediate) in
    let t = step_with (Branch w c s) i (encoding_at program (place + 1)).immediate in
    follow_value (g i.destination) x (λ u. with_value (operand s i g) (λ v. Goes (if is_met w c u v then target place i else place + 1) g)) next new (reads_register old g holds i.destination)
    (follow_value (operand s i g) y (λ v. Goes (if is_met w c x v then target place i else place + 1) g) next new (reads_second s i old g holds)
    (does_jump place i.offset (is_met w c x y) old next new g holds (subst (λ e. Does e t frame place old next new) (branch_effect w c s x (slice_index old i.source) (sign_extended i.immediate)) does)))
does_acts Exit i program frame place old next new does = λ g holds.
    follow_value (g 0) (slice_index old 0) (λ x. Ends (low_half x)) next new (reads_register old g holds 0)
    (subst (λ n. Follows (Ends (low_half (slice_index old 0))) n new) (sym does) refl)

-- the machine follows the program where it does the step at a place
pub does_follows : (program : List ℕ) (steps : List Step) (frame : List ℕ) (place : ℕ) (s : Step) (old : List ℕ) (next : Next) (new : List ℕ) → IsSound program → AreSteps program steps → place < slot_count program → is_second program place ≡ false → s ≡ get_or steps place s → DoesStep s frame place old next new → (g : Registers) → Holds old g → Follows (step program frame place g) next new
unfolding step
does_follows program steps frame place s old next new sound are within begins here does =
    let inside : place < length steps = let a = are.aligned in omega arith in
    let got = slice_get-get_or steps place s inside ∙ ap Some (sym here) in
    let found = sound.begins place within begins in
    let i = instruction found.0 (encoding_at program place) in
    let same = same_Some s (step_of i (encoding_at program (place + 1)).immediate) (sym got ∙ are.each place i found.1) in
    λ g holds.
    subst (λ o. Follows (act_at o program frame place g) next new) (sym found.1)
    (does_acts found.0 i program frame place old next new (subst (λ t. DoesStep t frame place old next new) same does) g holds)
