use Rattle.std.proofs.Common.{◌∙◌, sym}
use Rattle.tap_lines.proofs.Fronts.{batch_front_is, count_zero}
use Rattle.tap_world.specs.Line.{in_batch}
use Rattle.tap_lines.proofs.frame_line.FrameLine.batch_front.Goals as goal

pub returns-then-self-eq0 : goal.returns-then-self-eq0
returns-then-self-eq0 c =
    rw (← c.self.view_is) (sym (count_zero in_batch _ (sym c.self.invariant.batch ∙ c.if-self-eq0.true)))

pub returns-else-self-eq0 : goal.returns-else-self-eq0
returns-else-self-eq0 c =
    rw (← c.self.view_is) (c.waits_at.ensures ∙ batch_front_is _ _ _ _ c.self.invariant c.if-self-eq0.false)
