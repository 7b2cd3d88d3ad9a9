use Rattle.trace_text.proofs.Loops.{text_more_phases}
use Rattle.trace_text.proofs.printing.put_phases.Goals as goal

pub loop-number-preserved : goal.loop-number-preserved
loop-number-preserved c = text_more_phases _ _ _ c.args.phases.now c.loop-number.number c.index-phases-number.result c.loop-number-test.true c.index-phases-number.is c.loop-number.invariant c.in_ok-put_phase.ensures
