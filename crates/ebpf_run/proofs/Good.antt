-- A program without faults is never stuck: along its paths each register that is read is set.
use Rattle.std.proofs.Common.{◌≡◌, ℕ, ◌+◌, ◌*◌, ◌^◌, ◌<◌, List, [], ◌∷◌, length, Bool, true, false, not, ◌&&◌, ◌||◌, Option, Some, None, refl, sym, ap, ◌∙◌, subst, inl, inr}
use Rattle.std.proofs.lemmas.Bool.{both_ways, cases_Bool, or_left, or_right, and_from, eq-eqb, cond-true, cond-false}
use Rattle.std.specs.Prelude.{◌==◌, nat_le, IsTrue, IsSomeAnd, if◌then◌else◌}
use Rattle.ebpf_code.specs.declared.encoding.Encoding.{Encoding}
use Rattle.ebpf_code.specs.declared.operation.Source.{Source}
use Rattle.ebpf_code.specs.declared.operation.Source.TheVariants as source
use Rattle.ebpf_code.specs.declared.operation.Arithmetic.{Arithmetic}
use Rattle.ebpf_code.specs.declared.operation.Arithmetic.TheVariants.{Add, Subtract, Multiply, Divide, Or, And, ShiftLeft, ShiftRight, Modulo, Xor, Move, ShiftRightSigned}
use Rattle.ebpf_code.specs.declared.operation.LoadMode.{LoadMode}
use Rattle.ebpf_code.specs.declared.operation.LoadMode.TheVariants.{Absolute, Indirect}
use Rattle.ebpf_code.specs.declared.operation.Operation.{Operation}
use Rattle.ebpf_code.specs.declared.operation.Operation.TheVariants.{Calculate, Negate, SwapBytes, LoadImmediate, LoadFrame, Jump, Branch, Exit}
use Rattle.ebpf_code.specs.declared.instruction.Instruction.{Instruction}
use Rattle.ebpf_code.specs.Sound.{IsSound}
use Rattle.ebpf_code.specs.Encoding.{encoding_at}
use Rattle.ebpf_code.specs.Instruction.{uses, is_exit, instruction, reads, writes, spoils, is_move, is_register, is_indirect, goes_forward, target, leads}
use Rattle.ebpf_code.specs.Faults.{slot_count, is_second, instruction_at, At, IsPath, is_set, set_after}
use Rattle.ebpf_code.specs.Step.{sign_extended}
use Rattle.ebpf_run.specs.Calculation.{low_half, calculated, negated, swapped, is_met}
use Rattle.ebpf_run.specs.Meaning.{Registers, start, write, spoil, operand, left, index_of, low_sum, number_at, Outcome, with_value, loaded, act, act_at, step, Case}

-- a place to which the steps lead, with registers of which those are set that are set on some path to it
pub record Good (program : List ℕ) (place : ℕ) (g : Registers) : Type 0 where
  pub within : place < slot_count program
  pub begins : is_second program place ≡ false
  pub path : List ℕ
  pub is_path : IsPath program place path
  pub set : (r : ℕ) → is_set program path r ≡ true → (v : ℕ) × (g r ≡ Some v)

-- what is so of the instruction at a place is so at the place
at_from : (program : List ℕ) (place : ℕ) (i : Instruction) (P : Instruction → Type 0) → instruction_at program place ≡ Some i → P i → At program place P
at_from program place i P found h = subst (λ o. IsSomeAnd o P) (sym found) h

module _ (program : List ℕ) (sound : IsSound program) (place : ℕ) (i : Instruction) (found : instruction_at program place ≡ Some i) where
  module _ (g : Registers) (good : Good program place g) where
    -- a register that is read is set
    got : (r : ℕ) → reads i r ≡ true → (v : ℕ) × (g r ≡ Some v)
    got r h = good.set r (sound.read place i good.path r found good.is_path h)

    got_destination : (uses i.operation).reads_destination ≡ true → (v : ℕ) × (g i.destination ≡ Some v)
    got_destination u = got i.destination (or_left _ (is_exit i.operation && i.destination == 0) (or_left ((uses i.operation).reads_destination && i.destination == i.destination) ((uses i.operation).source && i.destination == i.source) (and_from (uses i.operation).reads_destination (i.destination == i.destination) u (eq-eqb i.destination i.destination refl))))

    got_source : (uses i.operation).source ≡ true → (v : ℕ) × (g i.source ≡ Some v)
    got_source u = got i.source (or_left _ (is_exit i.operation && i.source == 0) (or_right ((uses i.operation).reads_destination && i.source == i.destination) ((uses i.operation).source && i.source == i.source) (and_from (uses i.operation).source (i.source == i.source) u (eq-eqb i.source i.source refl))))

    got_zero : is_exit i.operation ≡ true → (v : ℕ) × (g 0 ≡ Some v)
    got_zero u = got 0 (or_right _ (is_exit i.operation && 0 == 0) (and_from (is_exit i.operation) true u refl))

    got_operand : (s : Source) → (is_register s ≡ true → (uses i.operation).source ≡ true) → (y : ℕ) × (operand s i g ≡ Some y)
    got_operand source.Immediate u = (sign_extended i.immediate, refl)
    got_operand source.Register u = got_source (u refl)

    got_left : (a : Arithmetic) → (not (is_move a) ≡ true → (uses i.operation).reads_destination ≡ true) → (x : ℕ) × (left a i g ≡ Some x)
    got_left Add u = got_destination (u refl)
    got_left Subtract u = got_destination (u refl)
    got_left Multiply u = got_destination (u refl)
    got_left Divide u = got_destination (u refl)
    got_left Or u = got_destination (u refl)
    got_left And u = got_destination (u refl)
    got_left ShiftLeft u = got_destination (u refl)
    got_left ShiftRight u = got_destination (u refl)
    got_left Modulo u = got_destination (u refl)
    got_left Xor u = got_destination (u refl)
    got_left Move u = (0, refl)
    got_left ShiftRightSigned u = got_destination (u refl)

    got_index : (m : LoadMode) → (is_indirect m ≡ true → (uses i.operation).source ≡ true) → (x : ℕ) × (index_of m i g ≡ Some x)
    got_index Absolute u = (i.immediate, refl)
    got_index Indirect u = let v = got_source (u refl) in (low_half (i.immediate + low_half v.0), ap (low_sum i.immediate) v.1)

    -- where it goes on, with registers that are set where the path sets them
    good_next : (p : ℕ) (h : Registers) → leads place i p ≡ true → ((r : ℕ) → set_after (Some i) (is_set program good.path r) r ≡ true → (v : ℕ) × (h r ≡ Some v)) → (place < p) × Good program p h
    good_next p h led sets =
        let next = sound.leads place i p found led in (
          next.0,
          record {
            within = next.1;
            begins = next.2;
            path = place ∷ good.path;
            is_path = (next.0, at_from program place i (λ j. IsTrue (leads place j p)) found led, good.is_path);
            set = λ r e. sets r (sym (ap (λ o. set_after o (is_set program good.path r) r) found) ∙ e);
          },
        )

    -- a register is written and no other changes
    written : (d v : ℕ) → ((r : ℕ) → writes i r ≡ (r == d)) → ((r : ℕ) → spoils i r ≡ false) → (r : ℕ) → set_after (Some i) (is_set program good.path r) r ≡ true → (w : ℕ) × (write g d v r ≡ Some w)
    written d v wrote spoilt r h =
        elim (cases_Bool (r == d)) [
          | inl e ↦ (v, cond-true (r == d) (Some v) (g r) e)
          | inr e ↦
              let was = sym (cond-false (writes i r) true (if spoils i r then false else is_set program good.path r) (wrote r ∙ e) ∙ cond-false (spoils i r) false (is_set program good.path r) (spoilt r)) ∙ h in
              let x = good.set r was in
              (x.0, cond-false (r == d) (Some v) (g r) e ∙ x.1)
        ]

    unchanged : ((r : ℕ) → writes i r ≡ false) → ((r : ℕ) → spoils i r ≡ false) → (r : ℕ) → set_after (Some i) (is_set program good.path r) r ≡ true → (w : ℕ) × (g r ≡ Some w)
    unchanged wrote spoilt r h =
        good.set r (sym (cond-false (writes i r) true (if spoils i r then false else is_set program good.path r) (wrote r) ∙ cond-false (spoils i r) false (is_set program good.path r) (spoilt r)) ∙ h)

    load_written : (x : ℕ) → ((r : ℕ) → writes i r ≡ (r == 0)) → ((r : ℕ) → spoils i r ≡ (nat_le 1 r && nat_le r 5)) → (r : ℕ) → set_after (Some i) (is_set program good.path r) r ≡ true → (w : ℕ) × (write (spoil g) 0 x r ≡ Some w)
    load_written x wrote spoilt r h =
        elim (cases_Bool (r == 0)) [
          | inl e ↦ (x, cond-true (r == 0) (Some x) (spoil g r) e)
          | inr e ↦ elim (cases_Bool (nat_le 1 r && nat_le r 5)) [
            | inl s ↦ absurd (both_ways _ (cond-false (writes i r) true (if spoils i r then false else is_set program good.path r) (wrote r ∙ e) ∙ cond-true (spoils i r) false (is_set program good.path r) (spoilt r ∙ s)) h)
            | inr s ↦
                let was = sym (cond-false (writes i r) true (if spoils i r then false else is_set program good.path r) (wrote r ∙ e) ∙ cond-false (spoils i r) false (is_set program good.path r) (spoilt r ∙ s)) ∙ h in
                let y = good.set r was in
                (y.0, cond-false (r == 0) (Some x) (spoil g r) e ∙ cond-false (nat_le 1 r && nat_le r 5) None (g r) s ∙ y.1)
          ]
        ]

-- what a step leads to is good, and later
abbrev Fine : List ℕ → ℕ → Outcome → Type 0
Fine program place o = Case o (λ p h. (place < p) × Good program p h) (λ v. Unit {0})

fine_value : (program : List ℕ) (place : ℕ) (o : Option ℕ) (v : ℕ) (go : ℕ → Outcome) → o ≡ Some v → Fine program place (go v) → Fine program place (with_value o go)
fine_value program place o v go e f = subst (λ x. Fine program place (with_value x go)) (sym e) f

or_no : (x : Bool) → (x || false) ≡ x
or_no true = refl
or_no false = refl

module _ (program : List ℕ) (sound : IsSound program) (frame : List ℕ) (place : ℕ) (e : Encoding) where
  fine : (o : Operation) (g : Registers) → instruction_at program place ≡ Some (instruction o e) → Good program place g → Fine program place (act o (instruction o e) program frame place g)
  fine (Calculate w a s) g found good =
      let i = instruction (Calculate w a s) e in
      let x = got_left program sound place i found g good a (λ u. u) in
      let y = got_operand program sound place i found g good s (λ u. u) in
      fine_value program place (left a i g) x.0 _ x.1 (fine_value program place (operand s i g) y.0 _ y.1
      (good_next program sound place i found g good (place + 1) (write g i.destination (calculated w a x.0 y.0)) (or_left _ _ (eq-eqb (place + 1) (place + 1) refl))
      (written program sound place i found g good i.destination (calculated w a x.0 y.0) (λ r. or_no (r == i.destination)) (λ r. refl))))
  fine (Negate w) g found good =
      let i = instruction (Negate w) e in
      let x = got_destination program sound place i found g good refl in
      fine_value program place (g i.destination) x.0 _ x.1
      (good_next program sound place i found g good (place + 1) (write g i.destination (negated w x.0)) (or_left _ _ (eq-eqb (place + 1) (place + 1) refl))
      (written program sound place i found g good i.destination (negated w x.0) (λ r. or_no (r == i.destination)) (λ r. refl)))
  fine (SwapBytes o) g found good =
      let i = instruction (SwapBytes o) e in
      let x = got_destination program sound place i found g good refl in
      fine_value program place (g i.destination) x.0 _ x.1
      (good_next program sound place i found g good (place + 1) (write g i.destination (swapped o i.immediate x.0)) (or_left _ _ (eq-eqb (place + 1) (place + 1) refl))
      (written program sound place i found g good i.destination (swapped o i.immediate x.0) (λ r. or_no (r == i.destination)) (λ r. refl)))
  fine LoadImmediate g found good =
      let i = instruction LoadImmediate e in
      let v : ℕ = i.immediate + 2 ^ 32 * (encoding_at program (place + 1)).immediate in
      good_next program sound place i found g good (place + 2) (write g i.destination v) (or_left _ _ (eq-eqb (place + 2) (place + 2) refl))
      (written program sound place i found g good i.destination v (λ r. or_no (r == i.destination)) (λ r. refl))
  fine (LoadFrame m z) g found good =
      let i = instruction (LoadFrame m z) e in
      let x = got_index program sound place i found g good m (λ u. u) in
      fine_value program place (index_of m i g) x.0 _ x.1 (load (number_at frame x.0 z))
    where
      load : (o : Option ℕ) → Fine program place (loaded o place g)
      load None = tt
      load (Some v) =
          let i = instruction (LoadFrame m z) e in
          good_next program sound place i found g good (place + 1) (write (spoil g) 0 v) (or_left _ _ (eq-eqb (place + 1) (place + 1) refl))
          (load_written program sound place i found g good v (λ r. refl) (λ r. refl))
  fine Jump g found good =
      let i = instruction Jump e in
      good_next program sound place i found g good (target place i) g (and_from (goes_forward i) (target place i == target place i) (sound.forward place i found refl) (eq-eqb (target place i) (target place i) refl))
      (unchanged program sound place i found g good (λ r. refl) (λ r. refl))
  fine (Branch w c s) g found good =
      let i = instruction (Branch w c s) e in
      let x = got_destination program sound place i found g good refl in
      let y = got_operand program sound place i found g good s (λ u. u) in
      fine_value program place (g i.destination) x.0 _ x.1 (fine_value program place (operand s i g) y.0 _ y.1
      (good_next program sound place i found g good (if is_met w c x.0 y.0 then target place i else place + 1) g (chosen (is_met w c x.0 y.0))
      (unchanged program sound place i found g good (λ r. refl) (λ r. refl))))
    where
      chosen : (b : Bool) → leads place (instruction (Branch w c s) e) (if b then target place (instruction (Branch w c s) e) else place + 1) ≡ true
      chosen true =
          let i = instruction (Branch w c s) e in
          or_right (target place i == place + 1) (goes_forward i && target place i == target place i) (and_from (goes_forward i) (target place i == target place i) (sound.forward place i found refl) (eq-eqb (target place i) (target place i) refl))
      chosen false = or_left _ _ (eq-eqb (place + 1) (place + 1) refl)
  fine Exit g found good =
      let x = got_zero program sound place (instruction Exit e) found g good refl in
      fine_value program place (g 0) x.0 _ x.1 tt

-- so is each step from a good place
pub go_on : (program : List ℕ) → IsSound program → (frame : List ℕ) (place : ℕ) (g : Registers) → Good program place g → Case (step program frame place g) (λ p h. (place < p) × Good program p h) (λ v. Unit {0})
unfolding step
go_on program sound frame place g good =
    let i = sound.begins place good.within good.begins in
    subst (λ o. Fine program place (act_at o program frame place g)) (sym i.1) (fine program sound frame place (encoding_at program place) i.0 g i.1 good)

-- the start is good
pub good_start : (program : List ℕ) → IsSound program → (frame : List ℕ) → Good program 0 (start frame)
good_start program sound frame = record {
  within = sound.some;
  begins = sound.first;
  path = [];
  is_path = refl;
  set = λ r e. (length frame, cond-true (r == 1) (Some (length frame)) None e);
}
