use Rattle.std.proofs.Common.{◌∙◌, arith}
use Rattle.tap_lines.proofs.Fronts.{empty_is}
use Rattle.tap_lines.proofs.Index.{waiting_long}
use Rattle.tap_lines.proofs.frame_line.FrameLine.is_empty.Goals as goal

pub returns : goal.returns
returns c =
    let s = c.self.inside in
    rw (← c.self.view_is)
    (c.is_empty.ensures ∙ empty_is s.line.items _ (omega (arith, waiting_long _ _ _ _ c.self.invariant, s.waiting.ok.0)))
