use Rattle.std.proofs.Common.{◌∙◌}
use Rattle.tap_lines.proofs.Fronts.{ring_front_is}
use Rattle.tap_lines.proofs.frame_line.FrameLine.ring_front.Goals as goal

pub returns : goal.returns
returns c = rw (← c.self.view_is) (c.waits_at.ensures ∙ ring_front_is _ _ _ _ c.self.invariant)
