use Rattle.trace_words.specs.Operations.{op_line}
use Rattle.trace_text.proofs.Loops.{text_more}
use Rattle.trace_text.proofs.printing.put_ops.Goals as goal

pub loop-op-preserved : goal.loop-op-preserved
loop-op-preserved c = text_more op_line _ _ _ c.args.ops.now c.loop-op.op-index c.op-item.result _ c.loop-op-test.true c.op-item.is c.loop-op.invariant c.in_ok-put_op.ensures
