use Rattle.std.proofs.Common.{[], ◌∷◌, ◌++◌, ap, ◌∙◌}
use Rattle.tap_report.specs.Rows.{file_row}
use Rattle.tap_report.proofs.Loops.{pushed}
use Rattle.tap_report.proofs.rows.file_rows.Goals as goal

pub loop-part-preserved : goal.loop-part-preserved
loop-part-preserved c = pushed file_row [] _ _ c.args.parts.now c.loop-part.part-index c.part-item.result _ c.loop-part-test.true c.part-item.is c.loop-part.invariant (c.in_ok-push.ensures.ok ∙ ap (λ r. c.loop-part.rows ++ r ∷ []) c.file_row.ensures)
