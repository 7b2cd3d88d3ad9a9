use Rattle.std.proofs.Common.{[], ◌∷◌, ◌++◌, ap, ◌∙◌}
use Rattle.tap_report.specs.Rows.{ring_row}
use Rattle.tap_report.proofs.Loops.{pushed}
use Rattle.tap_report.proofs.rings.ring_rows.Goals as goal

pub loop-part-preserved : goal.loop-part-preserved
loop-part-preserved c = pushed (ring_row c.args.roles.now c.args.turns.now c.args.guests.now) [] _ _ c.args.parts.now c.loop-part.part-index c.part-item.result _ c.loop-part-test.true c.part-item.is c.loop-part.invariant (c.in_ok-push.ensures.ok ∙ ap (λ r. c.loop-part.rows ++ r ∷ []) c.ring_row.ensures)
