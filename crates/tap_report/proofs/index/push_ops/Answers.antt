use Rattle.tap_report.specs.Index.{set_by}
use Rattle.tap_report.proofs.Loops.{appended}
use Rattle.tap_report.proofs.index.push_ops.Goals as goal

pub loop-op-preserved : goal.loop-op-preserved
loop-op-preserved c = appended (set_by c.args.wanted c.args.names.now) c.args.out.now _ _ c.args.ops.now c.loop-op.op-index c.op-item.result _ c.loop-op-test.true c.op-item.is c.loop-op.invariant c.in_ok-push_op.ensures
