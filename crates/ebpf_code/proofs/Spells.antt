-- The slots of the bytes spell them.
use Rattle.std.proofs.Common.{◌≡◌, ℕ, zero, suc, ◌+◌, ◌*◌, ◌/◌, ◌%◌, ◌<◌, ◌≤◌, List, [], ◌∷◌, ◌++◌, length, get_or, take, drop, Bool, true, false, not, cond, ◌&&◌, Option, Some, None, refl, sym, ap, ◌∙◌, subst, arith, add-one, length-drop}
use Rattle.std.proofs.lemmas.Bool.{eqb-true, eqb-false, and_parts, or_parts, not-false, not-true}
use Rattle.std.proofs.lemmas.Option.{same_Some, none-some}
use Rattle.std.proofs.lemmas.List.{get_or-drop, take_all, flat_map_more}
use Rattle.std.proofs.lemmas.Nat.{le_bytes_2, le_bytes_4}
use Rattle.std.specs.Prelude.{◌==◌, slice_get}
use Rattle.std.specs.List.{flat_map}
use Rattle.std.specs.Option.{option_map}
use Rattle.std.specs.Int.{w16, w32, to_le_bytes, from_le_bytes}
use Rattle.ebpf_code.specs.declared.operation.Width.{Width}
use Rattle.ebpf_code.specs.declared.operation.Width.TheVariants.{Bits64, Bits32}
use Rattle.ebpf_code.specs.declared.operation.Source.{Source}
use Rattle.ebpf_code.specs.declared.operation.Source.TheVariants.{Immediate, Register}
use Rattle.ebpf_code.specs.declared.operation.Arithmetic.{Arithmetic}
use Rattle.ebpf_code.specs.declared.operation.Arithmetic.TheVariants.{Add, Subtract, Multiply, Divide, Or, And, ShiftLeft, ShiftRight, Modulo, Xor, Move, ShiftRightSigned}
use Rattle.ebpf_code.specs.declared.operation.Condition.{Condition}
use Rattle.ebpf_code.specs.declared.operation.Condition.TheVariants.{Equal, Above, AboveOrEqual, CommonBits, NotEqual, SignedAbove, SignedAboveOrEqual, Below, BelowOrEqual, SignedBelow, SignedBelowOrEqual}
use Rattle.ebpf_code.specs.declared.operation.ByteOrder.TheVariants.{Little, Big}
use Rattle.ebpf_code.specs.declared.operation.LoadMode.TheVariants.{Absolute, Indirect}
use Rattle.ebpf_code.specs.declared.operation.LoadSize.TheVariants.{Word, Half, Byte}
use Rattle.ebpf_code.specs.declared.operation.Operation.{Operation}
use Rattle.ebpf_code.specs.declared.operation.Operation.TheVariants.{Calculate, Negate, SwapBytes, LoadImmediate, LoadFrame, Jump, Branch, Exit}
use Rattle.ebpf_code.specs.Instruction.{operation_of, arithmetic_of, condition_of, calculation_of, branch_of, jump_of, load_of, source_of, without_source, swap_of}
use Rattle.ebpf_code.specs.Spelling.{opcode, source_bit, arithmetic_code, condition_code}
use Rattle.std.proofs.Math.Seq.{take-add}
use Rattle.ebpf_code.specs.declared.fault.CodeWhy.TheVariants.{Field}
use Rattle.ebpf_code.specs.declared.instruction.Instruction.{Instruction}
use Rattle.ebpf_code.specs.declared.instruction.Slot.{Slot}
use Rattle.ebpf_code.specs.declared.instruction.Slot.TheVariants.{Begins, HighHalf}
use Rattle.ebpf_code.specs.Encoding.{encoding_at, byte_at}
use Rattle.ebpf_code.specs.Instruction.{instruction}
use Rattle.ebpf_code.specs.Faults.{slot_count, is_second, instruction_at, slot_at, NoFault, misuses_field, has_stray_field, is_plain}
use Rattle.ebpf_code.specs.Program.{AreSlots}
use Rattle.ebpf_code.specs.Spelling.{slot_bytes, spelling}
use Rattle.ebpf_code.specs.Program.{IsProgram}
use Rattle.ebpf_code.proofs.Places.{found_of, at_is}
use Rattle.ebpf_code.proofs.Checks.{clean}

-- ---- an operation's opcode is the one that it was found by

-- one line of a table
line : {A : Type 0} (f : A → ℕ) (code k n : ℕ) (x a : A) (rest : Option A) → (code ≡ k → f x ≡ n) → (rest ≡ Some a → f a ≡ n) → cond (code == k) (Some x) rest ≡ Some a → f a ≡ n
line f code k n x a rest here there h = go (code == k) refl h
  where
    go : (b : Bool) → code == k ≡ b → cond b (Some x) rest ≡ Some a → f a ≡ n
    go true e h = ap f (sym (same_Some x a h)) ∙ here (eqb-true code k e)
    go false e h = there h

arithmetic_law : (code : ℕ) (a : Arithmetic) → arithmetic_of code ≡ Some a → arithmetic_code a ≡ code
arithmetic_law code a =
    (line arithmetic_code code 0 code Add a _ (λ e. sym e)
    (line arithmetic_code code 1 code Subtract a _ (λ e. sym e)
    (line arithmetic_code code 2 code Multiply a _ (λ e. sym e)
    (line arithmetic_code code 3 code Divide a _ (λ e. sym e)
    (line arithmetic_code code 4 code Or a _ (λ e. sym e)
    (line arithmetic_code code 5 code And a _ (λ e. sym e)
    (line arithmetic_code code 6 code ShiftLeft a _ (λ e. sym e)
    (line arithmetic_code code 7 code ShiftRight a _ (λ e. sym e)
    (line arithmetic_code code 9 code Modulo a _ (λ e. sym e)
    (line arithmetic_code code 10 code Xor a _ (λ e. sym e)
    (line arithmetic_code code 11 code Move a _ (λ e. sym e)
    (line arithmetic_code code 12 code ShiftRightSigned a _ (λ e. sym e)
    (λ e. absurd (none-some a e))))))))))))))

condition_law : (code : ℕ) (a : Condition) → condition_of code ≡ Some a → condition_code a ≡ code
condition_law code a =
    (line condition_code code 1 code Equal a _ (λ e. sym e)
    (line condition_code code 2 code Above a _ (λ e. sym e)
    (line condition_code code 3 code AboveOrEqual a _ (λ e. sym e)
    (line condition_code code 4 code CommonBits a _ (λ e. sym e)
    (line condition_code code 5 code NotEqual a _ (λ e. sym e)
    (line condition_code code 6 code SignedAbove a _ (λ e. sym e)
    (line condition_code code 7 code SignedAboveOrEqual a _ (λ e. sym e)
    (line condition_code code 10 code Below a _ (λ e. sym e)
    (line condition_code code 11 code BelowOrEqual a _ (λ e. sym e)
    (line condition_code code 12 code SignedBelow a _ (λ e. sym e)
    (line condition_code code 13 code SignedBelowOrEqual a _ (λ e. sym e)
    (λ e. absurd (none-some a e)))))))))))))

load_law : (n : ℕ) (a : Operation) → load_of n ≡ Some a → opcode a ≡ n
load_law n a =
    (line opcode n 24 n LoadImmediate a _ (λ e. sym e)
    (line opcode n 32 n (LoadFrame Absolute Word) a _ (λ e. sym e)
    (line opcode n 40 n (LoadFrame Absolute Half) a _ (λ e. sym e)
    (line opcode n 48 n (LoadFrame Absolute Byte) a _ (λ e. sym e)
    (line opcode n 64 n (LoadFrame Indirect Word) a _ (λ e. sym e)
    (line opcode n 72 n (LoadFrame Indirect Half) a _ (λ e. sym e)
    (line opcode n 80 n (LoadFrame Indirect Byte) a _ (λ e. sym e)
    (λ e. absurd (none-some a e)))))))))

-- the class of the calculations of a width
class_of : Width → ℕ
class_of Bits64 = 7
class_of Bits32 = 4

-- the class of the jumps of a width
jumps_of : Width → ℕ
jumps_of Bits64 = 5
jumps_of Bits32 = 6

-- a choice that gave an operation
either : (code k n : ℕ) (o : Operation) (x rest : Option Operation) → (code ≡ k → x ≡ Some o → opcode o ≡ n) → (rest ≡ Some o → opcode o ≡ n) → cond (code == k) x rest ≡ Some o → opcode o ≡ n
either code k n o x rest here there h = go (code == k) refl h
  where
    go : (b : Bool) → code == k ≡ b → cond b x rest ≡ Some o → opcode o ≡ n
    go true e h = here (eqb-true code k e) h
    go false e h = there h

calculate_code : (w : Width) (a : Arithmetic) (s : Source) (code : ℕ) → arithmetic_code a ≡ code → opcode (Calculate w a s) ≡ class_of w + source_bit s + 16 * code
unfolding class_of
calculate_code Bits64 a s code e = ap (λ c. 7 + source_bit s + 16 * c) e
calculate_code Bits32 a s code e = ap (λ c. 4 + source_bit s + 16 * c) e

branch_code : (w : Width) (c : Condition) (s : Source) (code : ℕ) → condition_code c ≡ code → opcode (Branch w c s) ≡ jumps_of w + source_bit s + 16 * code
unfolding jumps_of
branch_code Bits64 c s code e = ap (λ k. 5 + source_bit s + 16 * k) e
branch_code Bits32 c s code e = ap (λ k. 6 + source_bit s + 16 * k) e

mapped : (w : Width) (s : Source) (code : ℕ) (x : Option Arithmetic) (o : Operation) → ((a : Arithmetic) → x ≡ Some a → arithmetic_code a ≡ code) → option_map (λ a. Calculate w a s) x ≡ Some o → opcode o ≡ class_of w + source_bit s + 16 * code
mapped w s code None o law h = absurd (none-some o h)
mapped w s code (Some a) o law h = ap opcode (sym (same_Some (Calculate w a s) o h)) ∙ calculate_code w a s code (law a refl)

branched : (w : Width) (s : Source) (code : ℕ) (x : Option Condition) (o : Operation) → ((c : Condition) → x ≡ Some c → condition_code c ≡ code) → option_map (λ c. Branch w c s) x ≡ Some o → opcode o ≡ jumps_of w + source_bit s + 16 * code
branched w s code None o law h = absurd (none-some o h)
branched w s code (Some c) o law h = ap opcode (sym (same_Some (Branch w c s) o h)) ∙ branch_code w c s code (law c refl)

negated : (w : Width) (s : Source) (code : ℕ) (o : Operation) → code ≡ 8 → without_source (Negate w) s ≡ Some o → opcode o ≡ class_of w + source_bit s + 16 * code
unfolding class_of
negated Bits64 Immediate code o e h = ap opcode (sym (same_Some (Negate Bits64) o h)) ∙ omega arith
negated Bits32 Immediate code o e h = ap opcode (sym (same_Some (Negate Bits32) o h)) ∙ omega arith
negated w Register code o e h = absurd (none-some o h)

swapped : (w : Width) (s : Source) (code : ℕ) (o : Operation) → code ≡ 13 → swap_of w s ≡ Some o → opcode o ≡ class_of w + source_bit s + 16 * code
unfolding class_of
swapped Bits32 Immediate code o e h = ap opcode (sym (same_Some (SwapBytes Little) o h)) ∙ omega arith
swapped Bits32 Register code o e h = ap opcode (sym (same_Some (SwapBytes Big) o h)) ∙ omega arith
swapped Bits64 s code o e h = absurd (none-some o h)

calculation_law : (w : Width) (s : Source) (code : ℕ) (o : Operation) → calculation_of w s code ≡ Some o → opcode o ≡ class_of w + source_bit s + 16 * code
calculation_law w s code o =
    either code 8 _ o _ _ (λ e h. negated w s code o e h) (either code 13 _ o _ _ (λ e h. swapped w s code o e h) (mapped w s code (arithmetic_of code) o (arithmetic_law code)))

plain : (x : Operation) (s : Source) (code k : ℕ) (o : Operation) → opcode x ≡ 5 + 16 * k → code ≡ k → without_source x s ≡ Some o → opcode o ≡ 5 + source_bit s + 16 * code
plain x Immediate code k o is e h = ap opcode (sym (same_Some x o h)) ∙ is ∙ omega arith
plain x Register code k o is e h = absurd (none-some o h)

branch_law : (w : Width) (s : Source) (code : ℕ) (o : Operation) → branch_of w s code ≡ Some o → opcode o ≡ jumps_of w + source_bit s + 16 * code
branch_law w s code o = branched w s code (condition_of code) o (condition_law code)

jump_law : (s : Source) (code : ℕ) (o : Operation) → jump_of s code ≡ Some o → opcode o ≡ 5 + source_bit s + 16 * code
unfolding jumps_of
jump_law s code o =
    either code 0 _ o _ _ (λ e h. plain Jump s code 0 o refl e h) (either code 9 _ o _ _ (λ e h. plain Exit s code 9 o refl e h) (branch_law Bits64 s code o))

-- the source's bit
bit_law : (n : ℕ) → source_bit (source_of n) ≡ 8 * (n / 8 % 2)
bit_law n = go (n / 8 % 2 == 0) refl
  where
    go : (b : Bool) → (n / 8 % 2 == 0) ≡ b → source_bit (cond b Immediate Register) ≡ 8 * (n / 8 % 2)
    go true e = let z = eqb-true (n / 8 % 2) 0 e in omega arith
    go false e = let z = eqb-false (n / 8 % 2) 0 e in omega arith

parts : (n class : ℕ) → n % 8 ≡ class → class + source_bit (source_of n) + 16 * (n / 16) ≡ n
parts n class e = let b = bit_law n in omega arith

pub opcode_law : (n : ℕ) (o : Operation) → operation_of n ≡ Some o → opcode o ≡ n
unfolding operation_of class_of jumps_of
opcode_law n o =
    let s = source_of n in
    let code = n / 16 in
    either (n % 8) 0 n o _ _ (λ e h. load_law n o h)
    (either (n % 8) 4 n o _ _ (λ e h. calculation_law Bits32 s code o h ∙ parts n 4 e)
    (either (n % 8) 5 n o _ _ (λ e h. jump_law s code o h ∙ parts n 5 e)
    (either (n % 8) 6 n o _ _ (λ e h. branch_law Bits32 s code o h ∙ parts n 6 e)
    (either (n % 8) 7 n o _ _ (λ e h. calculation_law Bits64 s code o h ∙ parts n 7 e)
    (λ e. absurd (none-some o e))))))

-- ---- the bytes of a slot

-- the 8 bytes at a place
eight : List ℕ → ℕ → List ℕ
eight bytes place = byte_at bytes place 0 ∷ byte_at bytes place 1 ∷ byte_at bytes place 2 ∷ byte_at bytes place 3 ∷ byte_at bytes place 4 ∷ byte_at bytes place 5 ∷ byte_at bytes place 6 ∷ byte_at bytes place 7 ∷ []

eight_taken : (xs : List ℕ) → 8 ≤ length xs → take 8 xs ≡ get_or xs 0 0 ∷ get_or xs 1 0 ∷ get_or xs 2 0 ∷ get_or xs 3 0 ∷ get_or xs 4 0 ∷ get_or xs 5 0 ∷ get_or xs 6 0 ∷ get_or xs 7 0 ∷ []
eight_taken [] h = absurd (omega arith)
eight_taken (a ∷ []) h = absurd (omega arith)
eight_taken (a ∷ b ∷ []) h = absurd (omega arith)
eight_taken (a ∷ b ∷ c ∷ []) h = absurd (omega arith)
eight_taken (a ∷ b ∷ c ∷ d ∷ []) h = absurd (omega arith)
eight_taken (a ∷ b ∷ c ∷ d ∷ e ∷ []) h = absurd (omega arith)
eight_taken (a ∷ b ∷ c ∷ d ∷ e ∷ f ∷ []) h = absurd (omega arith)
eight_taken (a ∷ b ∷ c ∷ d ∷ e ∷ f ∷ g ∷ []) h = absurd (omega arith)
eight_taken (a ∷ b ∷ c ∷ d ∷ e ∷ f ∷ g ∷ i ∷ xs) h = refl

eight_at : (bytes : List ℕ) (place : ℕ) → 8 * place + 8 ≤ length bytes → take 8 (drop (8 * place) bytes) ≡ eight bytes place
unfolding eight
eight_at bytes place h =
    let long : 8 ≤ length (drop (8 * place) bytes) = omega (arith, length-drop (8 * place) bytes) in
    eight_taken (drop (8 * place) bytes) long ∙ simp get_or-drop

pub IsBytes : List ℕ → Type 0
IsBytes bytes = (i : ℕ) → get_or bytes i 0 < 256

pub bytes_from : (bytes : List ℕ) → ((i : ℕ) → get_or bytes i 0 < 256) → IsBytes bytes
unfolding IsBytes
bytes_from bytes h = h

two_small : (a b : ℕ) → a < 256 → b < 256 → (i : ℕ) → get_or (a ∷ b ∷ []) i 0 < 256
two_small a b p q zero = p
two_small a b p q (suc zero) = q
two_small a b p q (suc (suc i)) = omega arith

four_small : (a b c d : ℕ) → a < 256 → b < 256 → c < 256 → d < 256 → (i : ℕ) → get_or (a ∷ b ∷ c ∷ d ∷ []) i 0 < 256
four_small a b c d p q r s zero = p
four_small a b c d p q r s (suc zero) = q
four_small a b c d p q r s (suc (suc zero)) = r
four_small a b c d p q r s (suc (suc (suc zero))) = s
four_small a b c d p q r s (suc (suc (suc (suc i)))) = omega arith

-- the fields of a slot spell it
fields_spell : (bytes : List ℕ) (place a b : ℕ) → IsBytes bytes → a ≡ (encoding_at bytes place).opcode → b ≡ (encoding_at bytes place).destination + 16 * (encoding_at bytes place).source → a ∷ b ∷ (to_le_bytes w16 (encoding_at bytes place).offset ++ to_le_bytes w32 (encoding_at bytes place).immediate) ≡ eight bytes place
unfolding encoding_at eight IsBytes
fields_spell bytes place a b small first second =
    let byte : ℕ → ℕ = λ i. byte_at bytes place i in
    let two = le_bytes_2 (byte 2 ∷ byte 3 ∷ []) (from_le_bytes w16 (byte 2 ∷ byte 3 ∷ [])) refl (two_small (byte 2) (byte 3) (small (8 * place + 2)) (small (8 * place + 3))) refl in
    let four = le_bytes_4 (byte 4 ∷ byte 5 ∷ byte 6 ∷ byte 7 ∷ []) (from_le_bytes w32 (byte 4 ∷ byte 5 ∷ byte 6 ∷ byte 7 ∷ [])) refl (four_small (byte 4) (byte 5) (byte 6) (byte 7) (small (8 * place + 4)) (small (8 * place + 5)) (small (8 * place + 6)) (small (8 * place + 7))) refl in
    let whole : b ≡ byte 1 = second ∙ omega arith in
    ap (λ x. x ∷ b ∷ (to_le_bytes w16 (from_le_bytes w16 (byte 2 ∷ byte 3 ∷ [])) ++ to_le_bytes w32 (from_le_bytes w32 (byte 4 ∷ byte 5 ∷ byte 6 ∷ byte 7 ∷ [])))) first
    ∙ ap (λ x. byte 0 ∷ x ∷ (to_le_bytes w16 (from_le_bytes w16 (byte 2 ∷ byte 3 ∷ [])) ++ to_le_bytes w32 (from_le_bytes w32 (byte 4 ∷ byte 5 ∷ byte 6 ∷ byte 7 ∷ [])))) whole
    ∙ ap (λ x. byte 0 ∷ byte 1 ∷ (x ++ to_le_bytes w32 (from_le_bytes w32 (byte 4 ∷ byte 5 ∷ byte 6 ∷ byte 7 ∷ [])))) two
    ∙ ap (λ x. byte 0 ∷ byte 1 ∷ byte 2 ∷ byte 3 ∷ x) four

-- an instruction spells its slot
begins_spell : (bytes : List ℕ) (place : ℕ) (i : Instruction) → IsBytes bytes → instruction_at bytes place ≡ Some i → slot_bytes (Begins i) ≡ eight bytes place
begins_spell bytes place i small found =
    let is = found_of bytes place i found in
    let e = encoding_at bytes place in
    ap (λ j. slot_bytes (Begins j)) is.fields
    ∙ fields_spell bytes place (opcode i.operation) (e.destination + 16 * e.source) small (opcode_law e.opcode i.operation is.operation) refl

pub wide_operation : operation_of 0x18 ≡ Some LoadImmediate
unfolding operation_of
wide_operation = refl

wide_at : (bytes : List ℕ) (place : ℕ) → place < slot_count bytes → is_second bytes place ≡ false → (encoding_at bytes place).opcode ≡ 0x18 → instruction_at bytes place ≡ Some (instruction LoadImmediate (encoding_at bytes place))
wide_at bytes place lt begins e =
    at_is bytes place lt begins ∙ ap (option_map (λ o. instruction o (encoding_at bytes place))) (ap operation_of e ∙ wide_operation)

-- the wide instruction before a second slot
wide_before : (bytes : List ℕ) (place : ℕ) → is_second bytes place ≡ true → place < slot_count bytes → (k : ℕ) × (place ≡ k + 1) × (instruction_at bytes k ≡ Some (instruction LoadImmediate (encoding_at bytes k)))
unfolding is_second
wide_before bytes zero second lt = cc
wide_before bytes (suc k) second lt =
    let p = and_parts ((encoding_at bytes k).opcode == 0x18) (not (is_second bytes k)) second in
    (k, sym (add-one k), wide_at bytes k (omega arith) (not-true (is_second bytes k) p.1) (eqb-true (encoding_at bytes k).opcode 0x18 p.0))

-- the second slot spells itself
second_spells : (bytes : List ℕ) (place : ℕ) → IsBytes bytes → NoFault bytes → is_second bytes place ≡ true → place < slot_count bytes → slot_bytes (HighHalf (encoding_at bytes place).immediate) ≡ eight bytes place
second_spells bytes place small sound second lt =
    let w = wide_before bytes place second lt in
    let i : Instruction = instruction LoadImmediate (encoding_at bytes w.0) in
    let fields = clean bytes w.0 i (λ j. misuses_field j (encoding_at bytes (w.0 + 1))) w.2 (sound w.0 Field) in
    let plain = not-false (is_plain (encoding_at bytes (w.0 + 1))) (or_parts (has_stray_field i) (not (is_plain (encoding_at bytes (w.0 + 1)))) fields).1 in
    let here : is_plain (encoding_at bytes place) ≡ true = ap (λ p. is_plain (encoding_at bytes p)) w.1 ∙ plain in
    let e = encoding_at bytes place in
    let p3 = and_parts (e.opcode == 0 && e.destination == 0 && e.source == 0) (e.offset == 0) here in
    let p2 = and_parts (e.opcode == 0 && e.destination == 0) (e.source == 0) p3.0 in
    let p1 = and_parts (e.opcode == 0) (e.destination == 0) p2.0 in
    let opcode-zero = eqb-true e.opcode 0 p1.0 in
    let destination-zero = eqb-true e.destination 0 p1.1 in
    let source-zero = eqb-true e.source 0 p2.1 in
    let offset-zero = eqb-true e.offset 0 p3.1 in
    ap (λ o. 0 ∷ 0 ∷ (to_le_bytes w16 o ++ to_le_bytes w32 e.immediate)) (sym offset-zero)
    ∙ fields_spell bytes place 0 0 small (sym opcode-zero) (omega arith)

slot_spells : (bytes : List ℕ) (place : ℕ) (s : Slot) → IsBytes bytes → NoFault bytes → place < slot_count bytes → slot_at bytes place ≡ Some s → slot_bytes s ≡ eight bytes place
slot_spells bytes place s small sound lt h = go (is_second bytes place) refl h
  where
    begun : (o : Option Instruction) → instruction_at bytes place ≡ o → option_map Begins o ≡ Some s → slot_bytes s ≡ eight bytes place
    begun None e h = absurd (none-some s h)
    begun (Some i) e h = ap slot_bytes (sym (same_Some (Begins i) s h)) ∙ begins_spell bytes place i small e

    go : (b : Bool) → is_second bytes place ≡ b → cond b (Some (HighHalf (encoding_at bytes place).immediate)) (option_map Begins (instruction_at bytes place)) ≡ Some s → slot_bytes s ≡ eight bytes place
    go true e h = ap slot_bytes (sym (same_Some (HighHalf (encoding_at bytes place).immediate) s h)) ∙ second_spells bytes place small sound e lt
    go false e h = begun (instruction_at bytes place) refl h

-- ---- the bytes of all slots

some_at : (slots : List Slot) (k : ℕ) → k < length slots → (s : Slot) × (slice_get slots k ≡ Some s)
some_at [] k lt = absurd (omega arith)
some_at (s ∷ slots) zero lt = (s, refl)
some_at (s ∷ slots) (suc k) lt = some_at slots k (omega arith)

take_next : (slots : List Slot) (k : ℕ) (s : Slot) → slice_get slots k ≡ Some s → take (suc k) slots ≡ take k slots ++ s ∷ []
take_next [] k s h = cc
take_next (x ∷ slots) zero s h = ap (λ y. y ∷ []) (same_Some x s h)
take_next (x ∷ slots) (suc k) s h = ap (λ ys. x ∷ ys) (take_next slots k s h)

fronts_spell : (bytes : List ℕ) (slots : List Slot) → IsBytes bytes → NoFault bytes → AreSlots bytes slots → (k : ℕ) → k ≤ length slots → flat_map slot_bytes (take k slots) ≡ take (8 * k) bytes
fronts_spell bytes slots small sound are zero le = refl
fronts_spell bytes slots small sound are (suc k) le =
    let s = some_at slots k (omega arith) in
    let within : k < slot_count bytes = let a = are.aligned in omega arith in
    let room : 8 * k + 8 ≤ length bytes = let a = are.aligned in omega arith in
    let spelled = slot_spells bytes k s.0 small sound within (sym (are.each k (omega arith)) ∙ s.1) in
    let next : 8 * k + 8 ≡ 8 * suc k = omega arith in
    ap (flat_map slot_bytes) (take_next slots k s.0 s.1)
    ∙ sym (flat_map_more slot_bytes [] (take k slots) s.0)
    ∙ ap (λ xs. xs ++ slot_bytes s.0) (fronts_spell bytes slots small sound are k (omega arith))
    ∙ ap (λ ys. take (8 * k) bytes ++ ys) (spelled ∙ sym (eight_at bytes k room))
    ∙ sym (take-add (8 * k) 8 bytes)
    ∙ ap (λ n. take n bytes) next

-- the slots of bytes without faults spell them
pub spelled : (bytes : List ℕ) (slots : List Slot) → IsBytes bytes → NoFault bytes → AreSlots bytes slots → spelling slots ≡ bytes
unfolding spelling
spelled bytes slots small sound are =
    ap (flat_map slot_bytes) (sym (take_all (length slots) slots (omega arith)))
    ∙ fronts_spell bytes slots small sound are (length slots) (omega arith)
    ∙ take_all (8 * length slots) bytes (let a = are.aligned in omega arith)

-- so they are a program
pub are_program : (bytes : List ℕ) (slots : List Slot) → IsBytes bytes → NoFault bytes → AreSlots bytes slots → length slots ≤ 4096 → IsProgram slots
are_program bytes slots small sound are few =
    let e = sym (spelled bytes slots small sound are) in
    record { few = few; read = subst (λ b. AreSlots b slots) e are; sound = subst NoFault e sound }
