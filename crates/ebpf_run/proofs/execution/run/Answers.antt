use Rattle.std.proofs.Common.{arith, subst, ◌≡◌, ◌+◌, ◌-◌, ◌<◌}
use Rattle.ebpf_code.specs.Faults.{slot_count}
use Rattle.ebpf_run.specs.declared.machine.Next.TheVariants.{At, End}
use Rattle.ebpf_run.specs.Meaning.{EndsAfter, start}
use Rattle.ebpf_run.specs.Step.{DoesStep}
use Rattle.ebpf_run.proofs.Good.{good_start}
use Rattle.ebpf_run.proofs.Runs.{Going, going_first, going_next, going_later, going_last, going_few, result_is}
use Rattle.ebpf_run.proofs.Decoded.{does_follows}
use Rattle.ebpf_run.proofs.execution.run.Goals as goal

pub turns-init : goal.turns-init
turns-init g c = record {
  counted = omega arith;
  going =
      (let none : 0 ≡ c.args.steps.now - c.args.steps.now = omega arith in
      subst (λ t. Going c.args.program.now c.args.frame.now c.start-machine.result.registers 0 t) none
      (going_first c.args.program.now c.args.frame.now c.start-machine.result.registers c.start-machine.ensures (good_start c.args.program.now c.steps-code.ensures.runs c.args.frame.now)));
}

pub turns-smaller : goal.turns-smaller
turns-smaller g c =
    let program = c.args.program.now in
    let frame = c.args.frame.now in
    let t = c.turns.steps - c.args.steps.now in
    let at = c.turns.invariant.going in
    let does = subst (λ n. DoesStep c.index-code-place.result frame c.turns.place c.turns.machine.registers n c.step.new.self.registers) c.in-At.is c.step.ensures in
    let sound = c.steps-code.ensures.runs in
    let follows = does_follows program c.steps-code.result.now frame c.turns.place c.index-code-place.result c.turns.machine.registers (At c.in-At.next) c.step.new.self.registers sound c.steps-code.ensures.steps at.good.within at.good.begins c.index-code-place.is does in
    let later = going_later program frame c.turns.machine.registers c.step.new.self.registers c.turns.place t c.in-At.next sound at follows in
    let within = at.good.within in
    let less : slot_count program - c.in-At.next < slot_count program - c.turns.place = omega arith in
    less

pub turns-preserved : goal.turns-preserved
turns-preserved g c =
    let program = c.args.program.now in
    let frame = c.args.frame.now in
    let t = c.turns.steps - c.args.steps.now in
    let at = c.turns.invariant.going in
    let does = subst (λ n. DoesStep c.index-code-place.result frame c.turns.place c.turns.machine.registers n c.step.new.self.registers) c.in-At.is c.step.ensures in
    let sound = c.steps-code.ensures.runs in
    let follows = does_follows program c.steps-code.result.now frame c.turns.place c.index-code-place.result c.turns.machine.registers (At c.in-At.next) c.step.new.self.registers sound c.steps-code.ensures.steps at.good.within at.good.begins c.index-code-place.is does in
    let counted = c.turns.invariant.counted in
    let tick = c.tick.ensures in
    let more : t + 1 ≡ c.tick.new.self - c.args.steps.now = omega arith in
    record {
      counted = omega arith;
      going = subst (λ n. Going program frame c.step.new.self.registers c.in-At.next n) more
          (going_next program frame c.turns.machine.registers c.step.new.self.registers c.turns.place t c.in-At.next sound at follows);
    }

pub returns-in-End-clause-value : goal.returns-in-End-clause-value
returns-in-End-clause-value g c =
    let program = c.args.program.now in
    let frame = c.args.frame.now in
    let t = c.turns.steps - c.args.steps.now in
    let at = c.turns.invariant.going in
    let does = subst (λ n. DoesStep c.index-code-place.result frame c.turns.place c.turns.machine.registers n c.step.new.self.registers) c.in-End.is c.step.ensures in
    let sound = c.steps-code.ensures.runs in
    let follows = does_follows program c.steps-code.result.now frame c.turns.place c.index-code-place.result c.turns.machine.registers (End c.in-End.result) c.step.new.self.registers sound c.steps-code.ensures.steps at.good.within at.good.begins c.index-code-place.is does in
    result_is program frame (t + 1) c.in-End.result (going_few program frame c.turns.machine.registers c.turns.place t at)
    (going_last program frame c.turns.machine.registers c.step.new.self.registers c.turns.place t c.in-End.result sound at follows)

pub returns-in-End-clause-steps : goal.returns-in-End-clause-steps
returns-in-End-clause-steps g c =
    let program = c.args.program.now in
    let frame = c.args.frame.now in
    let t = c.turns.steps - c.args.steps.now in
    let at = c.turns.invariant.going in
    let does = subst (λ n. DoesStep c.index-code-place.result frame c.turns.place c.turns.machine.registers n c.step.new.self.registers) c.in-End.is c.step.ensures in
    let sound = c.steps-code.ensures.runs in
    let follows = does_follows program c.steps-code.result.now frame c.turns.place c.index-code-place.result c.turns.machine.registers (End c.in-End.result) c.step.new.self.registers sound c.steps-code.ensures.steps at.good.within at.good.begins c.index-code-place.is does in
    let counted = c.turns.invariant.counted in
    let tick = c.tick.ensures in
    let more : t + 1 ≡ c.tick.new.self - c.args.steps.now = omega arith in
    subst (λ n. EndsAfter program frame n 0 (start frame) c.in-End.result) more
    (going_last program frame c.turns.machine.registers c.step.new.self.registers c.turns.place t c.in-End.result sound at follows)

pub returns-in-End-clause-bound : goal.returns-in-End-clause-bound
returns-in-End-clause-bound g c =
    let few = going_few c.args.program.now c.args.frame.now c.turns.machine.registers c.turns.place (c.turns.steps - c.args.steps.now) c.turns.invariant.going in
    let counted = c.turns.invariant.counted in
    let tick = c.tick.ensures in
    omega arith
