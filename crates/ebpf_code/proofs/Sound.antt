-- A program without faults, instruction by instruction.
use Rattle.std.proofs.Common.{◌≡◌, ◌⊎◌, ℕ, zero, suc, ◌+◌, ◌/◌, ◌%◌, ◌^◌, ◌<◌, ◌≤◌, List, length, true, false, not, ◌&&◌, Option, Some, None, refl, sym, ap, ◌∙◌, subst, inl, inr, arith, add-one}
use Rattle.std.proofs.lemmas.Bool.{both_ways, cases_lt, cases_Bool, or_cases, or_parts, and_left, and_right, and_from, and_parts, and_cases, eqb-true, eq-eqb, leb-false, lt-ltb, not-false, true_from_ne_false, false_from_ne_true}
use Rattle.std.proofs.lemmas.Option.{same_Some}
use Rattle.std.specs.Prelude.{◌==◌, nat_lt, nat_le, if◌then◌else◌}
use Rattle.std.specs.Option.{option_map}
use Rattle.ebpf_code.specs.declared.fault.CodeWhy.TheVariants.{Length, Opcode, Backward, Beyond, Unset, NoExit, HalfWide, TooMany}
use Rattle.ebpf_code.specs.declared.operation.Operation.{Operation}
use Rattle.ebpf_code.specs.declared.operation.Operation.TheVariants.{Calculate, Negate, SwapBytes, LoadImmediate, LoadFrame, Jump, Branch, Exit}
use Rattle.ebpf_code.specs.declared.instruction.Instruction.{Instruction}
use Rattle.ebpf_code.specs.Encoding.{encoding_at}
use Rattle.ebpf_code.specs.Instruction.{operation_of, uses, is_wide, is_exit, falls_through, slots_of, instruction, reads, goes_backward, goes_forward, target, leads}
use Rattle.ebpf_code.specs.Spelling.{opcode}
use Rattle.ebpf_code.specs.Faults.{slot_count, is_second, instruction_at, IsPath, is_set, ReadsUnset, NoFault, goes_beyond, lacks_exit, enters_wide}
use Rattle.ebpf_code.specs.Sound.{IsSound}
use Rattle.ebpf_code.proofs.Places.{found_of, at_is}
use Rattle.ebpf_code.proofs.Checks.{at_from, clean}
use Rattle.ebpf_code.proofs.Kept.{leads_later}
use Rattle.ebpf_code.proofs.Spells.{opcode_law, wide_operation}

-- a program has a slot, and at most 4,096
pub some_slot : (program : List ℕ) → NoFault program → 0 < slot_count program
some_slot program sound =
    elim (cases_lt 0 (slot_count program)) [
      | inl lt ↦ lt
      | inr le ↦ absurd (sound 0 Length (refl, small (length program) (omega arith)))
    ]
  where
    small : (n : ℕ) → n / 8 ≤ 0 → (n ≡ 0) ⊎ (n % 8 ≡ 0 → ⊥)
    small zero h = inl refl
    small (suc n) h = inr (λ e. let p : suc n ≡ 0 = omega arith in cc)

pub few_slots : (program : List ℕ) → NoFault program → slot_count program ≤ 4096
few_slots program sound =
    elim (cases_lt 4096 (slot_count program)) [ inl lt ↦ absurd (sound 4096 TooMany (refl, lt)) | inr le ↦ le ]

-- at such a place an instruction begins
some_operation : (program : List ℕ) (place : ℕ) (o : Option Operation) → NoFault program → place < slot_count program → is_second program place ≡ false → operation_of (encoding_at program place).opcode ≡ o → (p : Operation) × (o ≡ Some p)
some_operation program place None sound within begins e = absurd (sound place Opcode (within, begins, e))
some_operation program place (Some p) sound within begins e = (p, refl)

pub some_instruction : (program : List ℕ) (place : ℕ) → NoFault program → place < slot_count program → is_second program place ≡ false → (o : Operation) × (instruction_at program place ≡ Some (instruction o (encoding_at program place)))
some_instruction program place sound within begins =
    let p = some_operation program place (operation_of (encoding_at program place).opcode) sound within begins refl in
    (p.0, at_is program place within begins ∙ ap (option_map (λ o. instruction o (encoding_at program place))) p.1)

-- ---- the place after an instruction

second_after : (program : List ℕ) (place : ℕ) → is_second program (place + 1) ≡ ((encoding_at program place).opcode == 0x18 && not (is_second program place))
unfolding is_second
second_after program place = ap (is_second program) (add-one place)

second_first : (program : List ℕ) → is_second program 0 ≡ false
unfolding is_second
second_first program = refl

falls_not_exit : (o : Operation) → falls_through o ≡ true → is_exit o ≡ false
falls_not_exit (Calculate w a s) h = refl
falls_not_exit (Negate w) h = refl
falls_not_exit (SwapBytes o) h = refl
falls_not_exit LoadImmediate h = refl
falls_not_exit (LoadFrame m z) h = refl
falls_not_exit Jump h = refl
falls_not_exit (Branch w c s) h = refl
falls_not_exit Exit h = cc

wide_is : (o : Operation) → is_wide o ≡ true → o ≡ LoadImmediate
wide_is (Calculate w a s) h = cc
wide_is (Negate w) h = cc
wide_is (SwapBytes o) h = cc
wide_is LoadImmediate h = refl
wide_is (LoadFrame m z) h = cc
wide_is Jump h = cc
wide_is (Branch w c s) h = cc
wide_is Exit h = cc

module _ (program : List ℕ) (sound : NoFault program) (place : ℕ) (i : Instruction) (found : instruction_at program place ≡ Some i) where
  -- after a wide instruction comes its second slot
  pub wide_second : i.operation ≡ LoadImmediate → (place + 1 < slot_count program) × (is_second program (place + 1) ≡ true)
  wide_second wide =
      let is = found_of program place i found in
      let code : (encoding_at program place).opcode ≡ 0x18 = sym (opcode_law (encoding_at program place).opcode i.operation is.operation) ∙ ap opcode wide in
      let beyond = clean program place i (goes_beyond (slot_count program) place) found (sound place Beyond) in
      let b = (or_parts (goes_forward i && nat_le (slot_count program) (target place i)) (is_wide i.operation && nat_le (slot_count program) (place + 1)) beyond).1 in
      let c : nat_le (slot_count program) (place + 1) ≡ false = subst (λ o. (is_wide o && nat_le (slot_count program) (place + 1)) ≡ false) wide b in
      (leb-false (slot_count program) (place + 1) c, second_after program place ∙ and_from ((encoding_at program place).opcode == 0x18) (not (is_second program place)) (eq-eqb (encoding_at program place).opcode 0x18 code) (ap not is.begins))

  -- the next place is one at which an instruction begins
  falls : (p : ℕ) → falls_through i.operation ≡ true → p ≡ place + slots_of i.operation → (p < slot_count program) × (is_second program p ≡ false)
  falls p f e =
      let exit = clean program place i (lacks_exit (slot_count program) place) found (sound place NoExit) in
      let lt : place + slots_of i.operation < slot_count program = elim (and_cases (not (is_exit i.operation)) (nat_le (slot_count program) (place + slots_of i.operation)) exit) [
        | inl x ↦ absurd (both_ways (is_exit i.operation) (falls_not_exit i.operation f) (not-false (is_exit i.operation) x))
        | inr x ↦ leb-false (slot_count program) (place + slots_of i.operation) x
      ] in (
        omega arith,
        ap (is_second program) e ∙ (elim (cases_Bool (is_wide i.operation)) [
          | inl w ↦
              let two : place + slots_of i.operation ≡ place + 1 + 1 = ap (λ b. place + (if b then 2 else 1)) w ∙ omega arith in
              ap (is_second program) two ∙ second_after program (place + 1) ∙ and_right ((encoding_at program (place + 1)).opcode == 0x18) (not (is_second program (place + 1))) (ap not (wide_second (wide_is i.operation w)).1)
          | inr w ↦
              let one : place + slots_of i.operation ≡ place + 1 = ap (λ b. place + (if b then 2 else 1)) w in
              ap (is_second program) one ∙ second_after program place ∙ and_left ((encoding_at program place).opcode == 0x18) (not (is_second program place)) (narrow w)
        ]),
      )
    where
      narrow : is_wide i.operation ≡ false → ((encoding_at program place).opcode == 0x18) ≡ false
      narrow w = false_from_ne_true ((encoding_at program place).opcode == 0x18) (λ h.
          let code = eqb-true (encoding_at program place).opcode 0x18 h in
          let same : Some i.operation ≡ Some LoadImmediate = sym (found_of program place i found).operation ∙ ap operation_of code ∙ wide_operation in
          both_ways (is_wide i.operation) w (ap is_wide (same_Some i.operation LoadImmediate same)))

  jumps : (p : ℕ) → goes_forward i ≡ true → p ≡ target place i → (p < slot_count program) × (is_second program p ≡ false)
  jumps p f e =
      let beyond = clean program place i (goes_beyond (slot_count program) place) found (sound place Beyond) in
      let enters = clean program place i (enters_wide program place) found (sound place HalfWide) in
      let b = (or_parts (goes_forward i && nat_le (slot_count program) (target place i)) (is_wide i.operation && nat_le (slot_count program) (place + 1)) beyond).0 in
      let lt : target place i < slot_count program = elim (and_cases (goes_forward i) (nat_le (slot_count program) (target place i)) b) [
        | inl x ↦ absurd (both_ways (goes_forward i) x f)
        | inr x ↦ leb-false (slot_count program) (target place i) x
      ] in
      let yes' = and_from (goes_forward i) (nat_lt (target place i) (slot_count program)) f (lt-ltb (target place i) (slot_count program) lt) in (
        subst (λ q. q < slot_count program) (sym e) lt,
        ap (is_second program) e ∙ (elim (and_cases (goes_forward i && nat_lt (target place i) (slot_count program)) (is_second program (target place i)) enters) [
          | inl x ↦ absurd (both_ways _ x yes')
          | inr x ↦ x
        ]),
      )

  next_place : (p : ℕ) → leads place i p ≡ true → (p < slot_count program) × (is_second program p ≡ false)
  next_place p h =
      elim (or_cases (falls_through i.operation && p == place + slots_of i.operation) (goes_forward i && p == target place i) h) [
        | inl x ↦ let q = and_parts (falls_through i.operation) (p == place + slots_of i.operation) x in falls p q.0 (eqb-true p (place + slots_of i.operation) q.1)
        | inr x ↦ let q = and_parts (goes_forward i) (p == target place i) x in jumps p q.0 (eqb-true p (target place i) q.1)
      ]

  -- a jump goes forward
  forward : (uses i.operation).offset ≡ true → goes_forward i ≡ true
  forward u =
      let back = clean program place i goes_backward found (sound place Backward) in
      elim (and_cases (uses i.operation).offset (nat_le (2 ^ 15) i.offset) back) [
        | inl x ↦ absurd (both_ways (uses i.operation).offset x u)
        | inr x ↦ and_from (uses i.operation).offset (not (nat_le (2 ^ 15) i.offset)) u (ap not x)
      ]

  -- what is read is set on each path
  read_set : (path : List ℕ) (r : ℕ) → IsPath program place path → reads i r ≡ true → is_set program path r ≡ true
  read_set path r is_path h =
      true_from_ne_false (is_set program path r) (λ e. sound place Unset (at_from program place i (ReadsUnset program place) found (r, h, path, is_path, e)))

-- a program without faults is sound
pub faultless_sound : (program : List ℕ) → NoFault program → IsSound program
faultless_sound program sound = record {
  some = some_slot program sound;
  few = few_slots program sound;
  first = second_first program;
  begins = λ place within begins. some_instruction program place sound within begins;
  leads = λ place i next found led. let to = next_place program sound place i found next led in (leads_later place i next led, to.0, to.1);
  forward = λ place i found u. forward program sound place i found u;
  wide = λ place i found w. wide_second program sound place i found (wide_is i.operation w);
  read = λ place i path r found is_path h. read_set program sound place i found path r is_path h;
}
