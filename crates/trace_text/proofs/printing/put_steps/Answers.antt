use Rattle.std.proofs.Common.{refl}
use Rattle.trace_words.specs.Steps.{step_line}
use Rattle.trace_text.proofs.Loops.{text_more}
use Rattle.trace_text.proofs.printing.put_steps.Goals as goal

pub loop-step-preserved : goal.loop-step-preserved
loop-step-preserved c = text_more step_line _ _ _ c.args.steps.now c.loop-step.step-index _ _ c.loop-step-test.true refl c.loop-step.invariant c.in_ok-put_step.ensures
