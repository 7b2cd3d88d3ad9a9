use Rattle.std.proofs.Common.{[], ◌∷◌, ◌++◌, ap, ◌∙◌}
use Rattle.tap_report.specs.Index.{line_role}
use Rattle.tap_report.proofs.Loops.{pushed}
use Rattle.tap_report.proofs.index.push_lines.Goals as goal

pub loop-line-preserved : goal.loop-line-preserved
loop-line-preserved c = pushed line_role c.args.out.now _ _ c.args.lines.now c.loop-line.line-index c.line-item.result _ c.loop-line-test.true c.line-item.is c.loop-line.invariant (c.in_ok-push.ensures.ok ∙ ap (λ r. c.loop-line.out ++ r ∷ []) c.role_of.ensures)
