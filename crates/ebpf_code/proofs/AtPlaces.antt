-- The steps of the slots are those of the bytes.
use Rattle.std.proofs.Common.{◌≡◌, ℕ, ◌+◌, ◌<◌, List, length, true, false, Some, refl, ap, ◌∙◌, arith, inl, inr}
use Rattle.std.proofs.lemmas.Bool.{both_ways, cases_Bool, cond-true, cond-false}
use Rattle.std.specs.Prelude.{slice_get}
use Rattle.std.specs.Option.{option_map}
use Rattle.ebpf_code.specs.declared.operation.Operation.{Operation}
use Rattle.ebpf_code.specs.declared.operation.Operation.TheVariants.{Calculate, Negate, SwapBytes, LoadImmediate, LoadFrame, Jump, Branch, Exit}
use Rattle.ebpf_code.specs.declared.instruction.Instruction.{Instruction}
use Rattle.ebpf_code.specs.declared.instruction.Slot.{Slot}
use Rattle.ebpf_code.specs.declared.instruction.Slot.TheVariants.{Begins, HighHalf}
use Rattle.ebpf_code.specs.declared.step.Step.{Step}
use Rattle.ebpf_code.specs.Encoding.{encoding_at}
use Rattle.ebpf_code.specs.Instruction.{is_wide}
use Rattle.ebpf_code.specs.Faults.{is_second, instruction_at}
use Rattle.ebpf_code.specs.Program.{AreSlots, IsProgram}
use Rattle.ebpf_code.specs.Spelling.{spelling}
use Rattle.ebpf_code.specs.Sound.{IsSound}
use Rattle.ebpf_code.specs.Step.{step_with, step_of, high_of, step_in, AreDecoded, AreSteps}
use Rattle.ebpf_code.proofs.Places.{found_of}
use Rattle.ebpf_code.proofs.Sound.{faultless_sound}

-- the slot behind counts for a wide instruction alone
same_step : (o : Operation) (i : Instruction) (h k : ℕ) → is_wide o ≡ false → step_with o i h ≡ step_with o i k
same_step (Calculate w a s) i h k e = refl
same_step (Negate w) i h k e = refl
same_step (SwapBytes o) i h k e = refl
same_step LoadImmediate i h k e = absurd (both_ways true e refl)
same_step (LoadFrame m z) i h k e = refl
same_step Jump i h k e = refl
same_step (Branch w c s) i h k e = refl
same_step Exit i h k e = refl

module _ (bytes : List ℕ) (slots : List Slot) (sound : IsSound bytes) (are : AreSlots bytes slots) where
  -- the slot at which an instruction begins
  begun_slot : (place : ℕ) (i : Instruction) → instruction_at bytes place ≡ Some i → slice_get slots place ≡ Some (Begins i)
  begun_slot place i found =
      let at = found_of bytes place i found in
      let within : place < length slots = let lt = at.within in let a = are.aligned in omega arith in
      are.each place within ∙ cond-false (is_second bytes place) (Some (HighHalf (encoding_at bytes place).immediate)) (option_map Begins (instruction_at bytes place)) at.begins ∙ ap (option_map Begins) found

  -- its step needs no more than the slot behind it
  step_behind : (place : ℕ) (i : Instruction) → instruction_at bytes place ≡ Some i → step_of i (high_of (slice_get slots (place + 1))) ≡ step_of i (encoding_at bytes (place + 1)).immediate
  step_behind place i found =
      elim (cases_Bool (is_wide i.operation)) [
        | inl e ↦
            let wide = sound.wide place i found e in
            let within : place + 1 < length slots = let lt = wide.0 in let a = are.aligned in omega arith in
            let second = are.each (place + 1) within ∙ cond-true (is_second bytes (place + 1)) (Some (HighHalf (encoding_at bytes (place + 1)).immediate)) (option_map Begins (instruction_at bytes (place + 1))) wide.1 in
            ap (λ o. step_of i (high_of o)) second
        | inr e ↦ same_step i.operation i (high_of (slice_get slots (place + 1))) (encoding_at bytes (place + 1)).immediate e
      ]

  decoded_steps : (steps : List Step) → AreDecoded slots steps → AreSteps bytes steps
  decoded_steps steps decoded = record {
    aligned = (let a = are.aligned in let m = decoded.many in omega arith);
    each = λ place i found.
        let at = found_of bytes place i found in
        let within : place < length slots = let lt = at.within in let a = are.aligned in omega arith in
        decoded.each place within ∙ ap (λ o. Some (step_in o (slice_get slots (place + 1)))) (begun_slot place i found) ∙ ap Some (step_behind place i found);
  }

-- the steps of a program's slots are those of its bytes
pub are_steps : (slots : List Slot) (steps : List Step) → IsProgram slots → AreDecoded slots steps → AreSteps (spelling slots) steps
are_steps slots steps is decoded = decoded_steps (spelling slots) slots (faultless_sound (spelling slots) is.sound) is.read steps decoded
