use Rattle.std.proofs.Common.{refl}
use Rattle.tap_world.specs.Setup.{setup_of}
use Rattle.tap_told.proofs.Filled.{one_more_op}
use Rattle.tap_told.proofs.operations.tell_ops.Goals as goal

pub loop-index-preserved : goal.loop-index-preserved
loop-index-preserved c =
    one_more_op (setup_of c.args.scenario.now) c.loop-index.parts _ _ c.args.ops.now c.loop-index.index _ _ _ c.loop-index-test.true refl
    c.in_ok-line.ensures c.in_ok-tell_op.ensures c.loop-index.invariant
