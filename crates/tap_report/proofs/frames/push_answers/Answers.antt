use Rattle.tap_report.specs.Frames.{answered}
use Rattle.tap_report.proofs.Loops.{appended}
use Rattle.tap_report.proofs.frames.push_answers.Goals as goal

pub loop-answer-preserved : goal.loop-answer-preserved
loop-answer-preserved c = appended (answered c.args.index.now) c.args.out.now _ _ c.args.answers.now c.loop-answer.answer-index c.answer-item.result _ c.loop-answer-test.true c.answer-item.is c.loop-answer.invariant c.in_ok-push_answered.ensures
