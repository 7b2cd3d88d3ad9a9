-- Whole runs: their ends, and how many steps they take.
use Rattle.std.proofs.Common.{◌≡◌, ℕ, zero, suc, ◌+◌, ◌<◌, ◌≤◌, List, Bool, true, false, Option, Some, None, refl, sym, ap, subst, inl, inr, arith}
use Rattle.std.proofs.lemmas.Bool.{cases_lt}
use Rattle.std.specs.Prelude.{unwrap_or, if◌then◌else◌}
use Rattle.ebpf_code.specs.declared.operation.Operation.{Operation}
use Rattle.ebpf_code.specs.declared.operation.Operation.TheVariants.{Calculate, Negate, SwapBytes, LoadImmediate, LoadFrame, Jump, Branch, Exit}
use Rattle.ebpf_code.specs.declared.instruction.Instruction.{Instruction}
use Rattle.ebpf_code.specs.Instruction.{target}
use Rattle.ebpf_code.specs.Faults.{slot_count, is_second, instruction_at}
use Rattle.ebpf_code.specs.Sound.{IsSound}
use Rattle.ebpf_run.specs.declared.machine.Next.TheVariants.{At, End}
use Rattle.ebpf_run.specs.Calculation.{is_met}
use Rattle.ebpf_run.specs.Meaning.{Registers, start, operand, left, index_of, number_at, Outcome, Goes, Ends, Stuck, with_value, loaded, act, act_at, step, Case, IfGoes, EndsAfter, GoesForward, Reaches, answer, end_within, result_of, instructions_below, instruction_count}
use Rattle.ebpf_run.specs.Machine.{Holds, Follows}
use Rattle.ebpf_run.proofs.Good.{Good, go_on}

-- ---- counts

below_next : (program : List ℕ) (place : ℕ) → instructions_below program place ≤ instructions_below program (suc place)
below_next program place = omega arith

below_counts : (program : List ℕ) (place : ℕ) → is_second program place ≡ false → instructions_below program (suc place) ≡ instructions_below program place + 1
below_counts program place e = ap (λ b. instructions_below program place + (if b then 0 else 1)) e

-- one instruction more is below a later place
pub below_grows : (program : List ℕ) (place p : ℕ) → place < p → is_second program place ≡ false → instructions_below program place + 1 ≤ instructions_below program p
below_grows program place zero lt e = absurd (omega arith)
below_grows program place (suc p) lt e =
    elim (cases_lt place p) [
      | inl less ↦ let a = below_grows program place p less e in let b = below_next program p in omega arith
      | inr le ↦
          let same : place ≡ p = omega arith in
          let b : instructions_below program (suc p) ≡ instructions_below program p + 1 = below_counts program p (subst (λ q. is_second program q ≡ false) same e) in
          let c = ap (instructions_below program) same in omega arith
    ]

at_most_one : (b : Bool) → (if b then 0 else 1) ≤ 1
at_most_one true = omega arith
at_most_one false = omega arith

-- no more instructions are below a place than places
pub below_few : (program : List ℕ) (place : ℕ) → instructions_below program place ≤ place
below_few program zero = omega arith
below_few program (suc p) = let a = below_few program p in let b = at_most_one (is_second program p) in omega arith

-- ---- the end

one_more : (program frame : List ℕ) (place k : ℕ) (o : Outcome) → place < slot_count program → is_second program place ≡ false → slot_count program ≤ place + suc k → Case o (λ p g. (place < p) × Good program p g) (λ v. Unit {0}) → ((p : ℕ) (g : Registers) → slot_count program ≤ p + k → Good program p g → (n : ℕ) × (r : ℕ) × (n + instructions_below program p ≤ instruction_count program) × EndsAfter program frame n p g r) → (n : ℕ) × (r : ℕ) × (suc n + instructions_below program place ≤ instruction_count program) × Case o (λ p g. EndsAfter program frame n p g r) (λ v. (n ≡ 0) × (v ≡ r))
one_more program frame place k (Goes p g) within begins enough c rest =
    let x = rest p g (omega (arith, c.0)) c.1 in
    let grows = below_grows program place p c.0 begins in
    (x.0, x.1, omega (arith, x.2, grows), x.3)
one_more program frame place k (Ends v) within begins enough c rest =
    let grows = below_grows program place (slot_count program) within begins in
    (0, v, omega (arith, grows), (refl, refl))
one_more program frame place k Stuck within begins enough c rest = absurd c

ends_from : (program frame : List ℕ) → IsSound program → (k place : ℕ) (g : Registers) → slot_count program ≤ place + k → Good program place g → (n : ℕ) × (r : ℕ) × (n + instructions_below program place ≤ instruction_count program) × EndsAfter program frame n place g r
ends_from program frame sound zero place g enough good = let within = good.within in absurd (omega arith)
ends_from program frame sound (suc k) place g enough good =
    let x = one_more program frame place k (step program frame place g) good.within good.begins enough (go_on program sound frame place g good) (ends_from program frame sound k) in
    (suc x.0, x.1, x.2, x.3)

pub ends : (program frame : List ℕ) → IsSound program → Good program 0 (start frame) → (n : ℕ) × (r : ℕ) × (n ≤ instruction_count program) × EndsAfter program frame n 0 (start frame) r
ends program frame sound good =
    let x = ends_from program frame sound (slot_count program) 0 (start frame) (omega arith) good in
    (x.0, x.1, omega (arith, x.2), x.3)

-- ---- the result

answered : (program frame : List ℕ) (n : ℕ) (r : ℕ) (o : Outcome) (m : ℕ) → n ≤ m → Case o (λ p g. EndsAfter program frame n p g r) (λ v. (n ≡ 0) × (v ≡ r)) → ((p : ℕ) (g : Registers) → EndsAfter program frame n p g r → end_within program frame m p g ≡ Some r) → answer o (end_within program frame m) ≡ Some r
answered program frame n r (Goes p g) m le c rest = rest p g c
answered program frame n r (Ends v) m le c rest = ap Some c.1
answered program frame n r Stuck m le c rest = absurd c

within : (program frame : List ℕ) (n m place : ℕ) (g : Registers) (r : ℕ) → n ≤ m → EndsAfter program frame n place g r → end_within program frame m place g ≡ Some r
within program frame zero m place g r le e = absurd e
within program frame (suc n) zero place g r le e = absurd (omega arith)
within program frame (suc n) (suc m) place g r le e =
    answered program frame n r (step program frame place g) m (omega arith) e (λ p h. within program frame n m p h r (omega arith))

pub result_is : (program frame : List ℕ) (n r : ℕ) → n ≤ instruction_count program → EndsAfter program frame n 0 (start frame) r → r ≡ result_of program frame
unfolding result_of
result_is program frame n r le e =
    let few = below_few program (slot_count program) in
    sym (ap (λ o. unwrap_or o 0) (within program frame n (slot_count program) 0 (start frame) r (omega arith) e))

-- ---- only forward

forward_value : (place : ℕ) (o : Option ℕ) (go : ℕ → Outcome) → ((v : ℕ) → IfGoes (go v) (λ p g. place < p)) → IfGoes (with_value o go) (λ p g. place < p)
forward_value place None go f = tt
forward_value place (Some v) go f = f v

forward_load : (place : ℕ) (o : Option ℕ) (g : Registers) → IfGoes (loaded o place g) (λ p h. place < p)
forward_load place None g = tt
forward_load place (Some v) g = omega arith

forward_jump : (place : ℕ) (i : Instruction) (b : Bool) → place < (if b then target place i else place + 1)
forward_jump place i true = omega arith
forward_jump place i false = omega arith

forward_act : (program frame : List ℕ) (place : ℕ) (o : Operation) (i : Instruction) (g : Registers) → IfGoes (act o i program frame place g) (λ p h. place < p)
forward_act program frame place (Calculate w a s) i g = forward_value place (left a i g) _ (λ x. forward_value place (operand s i g) _ (λ y. omega arith))
forward_act program frame place (Negate w) i g = forward_value place (g i.destination) _ (λ x. omega arith)
forward_act program frame place (SwapBytes o) i g = forward_value place (g i.destination) _ (λ x. omega arith)
forward_act program frame place LoadImmediate i g = omega arith
forward_act program frame place (LoadFrame m z) i g = forward_value place (index_of m i g) _ (λ x. forward_load place (number_at frame x z) g)
forward_act program frame place Jump i g = omega arith
forward_act program frame place (Branch w c s) i g = forward_value place (g i.destination) _ (λ x. forward_value place (operand s i g) _ (λ y. forward_jump place i (is_met w c x y)))
forward_act program frame place Exit i g = forward_value place (g 0) _ (λ x. tt)

forward_at : (program frame : List ℕ) (place : ℕ) (o : Option Instruction) (g : Registers) → IfGoes (act_at o program frame place g) (λ p h. place < p)
forward_at program frame place None g = tt
forward_at program frame place (Some i) g = forward_act program frame place i.operation i g

pub forward : (program frame : List ℕ) (place : ℕ) (g : Registers) → GoesForward program frame place g
unfolding step
forward program frame place g = forward_at program frame place (instruction_at program place) g

-- ---- never stuck

pub reached : (program frame : List ℕ) → IsSound program → Good program 0 (start frame) → (n place : ℕ) (g : Registers) → Reaches program frame n place g → Good program place g
reached program frame sound first zero place g r =
    subst (λ h. Good program place h) (sym r.1) (subst (λ p. Good program p (start frame)) (sym r.0) first)
reached program frame sound first (suc n) place g r =
    let before = reached program frame sound first n r.0 r.1 r.2 in
    let next : Case (Goes place g) (λ p h. (r.0 < p) × Good program p h) (λ v. Unit {0}) = subst (λ o. Case o (λ p h. (r.0 < p) × Good program p h) (λ v. Unit {0})) r.3 (go_on program sound frame r.0 r.1 before) in
    next.1

pub not_stuck : (program frame : List ℕ) → IsSound program → (place : ℕ) (g : Registers) → Good program place g → step program frame place g ≡ Stuck → ⊥
not_stuck program frame sound place g good e =
    subst (λ o. Case o (λ p h. (place < p) × Good program p h) (λ v. Unit {0})) e (go_on program sound frame place g good)

-- ---- the loop

-- after t steps the machine is at a good place, and goes on as the program does from the start
pub record Going (program frame numbers : List ℕ) (place t : ℕ) : Type 0 where
  pub registers : Registers
  pub holds : Holds numbers registers
  pub good : Good program place registers
  pub on : (n r : ℕ) → EndsAfter program frame n place registers r → EndsAfter program frame (n + t) 0 (start frame) r
  pub few : t ≤ instructions_below program place

pub going_first : (program frame numbers : List ℕ) → Holds numbers (start frame) → Good program 0 (start frame) → Going program frame numbers 0 0
going_first program frame numbers holds good = record {
  registers = start frame;
  holds = holds;
  good = good;
  on = λ n r e. subst (λ m. EndsAfter program frame m 0 (start frame) r) (let z : n ≡ n + 0 = omega arith in z) e;
  few = omega arith;
}

next_from : (program frame numbers : List ℕ) (place t p : ℕ) (o : Outcome) → Going program frame numbers place t → (new : List ℕ) → ((n r : ℕ) → Case o (λ q g. EndsAfter program frame n q g r) (λ v. (n ≡ 0) × (v ≡ r)) → EndsAfter program frame (suc n + t) 0 (start frame) r) → Case o (λ q g. (place < q) × Good program q g) (λ v. Unit {0}) → Follows o (At p) new → Going program frame new p (t + 1)
next_from program frame numbers place t p (Goes q g) at new on c f =
    subst (λ x. Going program frame new x (t + 1)) (sym f.0) (record {
      registers = g;
      holds = f.1;
      good = c.1;
      on = λ n r e. subst (λ m. EndsAfter program frame m 0 (start frame) r) (let z : suc n + t ≡ n + (t + 1) = omega arith in z) (on n r e);
      few = (let a = below_grows program place q c.0 at.good.begins in let b = at.few in omega arith);
    })
next_from program frame numbers place t p (Ends v) at new on c f = absurd f
next_from program frame numbers place t p Stuck at new on c f = absurd c

pub going_next : (program frame numbers new : List ℕ) (place t p : ℕ) → IsSound program → (at : Going program frame numbers place t) → ((g : Registers) → Holds numbers g → Follows (step program frame place g) (At p) new) → Going program frame new p (t + 1)
going_next program frame numbers new place t p sound at f =
    next_from program frame numbers place t p (step program frame place at.registers) at new
    (λ n r e. at.on (suc n) r e)
    (go_on program sound frame place at.registers at.good)
    (f at.registers at.holds)

later_from : (program : List ℕ) (place p : ℕ) (o : Outcome) (new : List ℕ) → Case o (λ q g. (place < q) × Good program q g) (λ v. Unit {0}) → Follows o (At p) new → place < p
later_from program place p (Goes q g) new c f = subst (λ x. place < x) (sym f.0) c.0
later_from program place p (Ends v) new c f = absurd f
later_from program place p Stuck new c f = absurd c

-- the next place is later
pub going_later : (program frame numbers new : List ℕ) (place t p : ℕ) → IsSound program → (at : Going program frame numbers place t) → ((g : Registers) → Holds numbers g → Follows (step program frame place g) (At p) new) → place < p
going_later program frame numbers new place t p sound at f =
    later_from program place p (step program frame place at.registers) new (go_on program sound frame place at.registers at.good) (f at.registers at.holds)

last_from : (program frame numbers : List ℕ) (place t r : ℕ) (o : Outcome) (new : List ℕ) → ((n v : ℕ) → Case o (λ q g. EndsAfter program frame n q g v) (λ w. (n ≡ 0) × (w ≡ v)) → EndsAfter program frame (suc n + t) 0 (start frame) v) → Case o (λ q g. (place < q) × Good program q g) (λ v. Unit {0}) → Follows o (End r) new → EndsAfter program frame (t + 1) 0 (start frame) r
last_from program frame numbers place t r (Goes q g) new on c f = absurd f
last_from program frame numbers place t r (Ends v) new on c f =
    subst (λ m. EndsAfter program frame m 0 (start frame) r) (let z : 1 + t ≡ t + 1 = omega arith in z) (on 0 r (refl, sym f))
last_from program frame numbers place t r Stuck new on c f = absurd c

pub going_last : (program frame numbers new : List ℕ) (place t r : ℕ) → IsSound program → (at : Going program frame numbers place t) → ((g : Registers) → Holds numbers g → Follows (step program frame place g) (End r) new) → EndsAfter program frame (t + 1) 0 (start frame) r
going_last program frame numbers new place t r sound at f =
    last_from program frame numbers place t r (step program frame place at.registers) new (λ n v e. at.on (suc n) v e)
    (go_on program sound frame place at.registers at.good)
    (f at.registers at.holds)

-- the steps so far and one more are no more than the instructions
pub going_few : (program frame numbers : List ℕ) (place t : ℕ) → Going program frame numbers place t → t + 1 ≤ instruction_count program
going_few program frame numbers place t at =
    let a = below_grows program place (slot_count program) at.good.within at.good.begins in
    let b = at.few in omega arith
