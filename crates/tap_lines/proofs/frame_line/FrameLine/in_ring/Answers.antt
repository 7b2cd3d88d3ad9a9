use Rattle.std.proofs.Common.{arith}
use Rattle.tap_lines.proofs.Index.{waiting_long}
use Rattle.tap_lines.proofs.frame_line.FrameLine.in_ring.Goals as goal

pub returns : goal.returns
returns c =
    let s = c.self.inside in
    rw (← c.self.view_is) (omega (arith, waiting_long _ _ _ _ c.self.invariant, s.waiting.ok.0))

pub overflow_sub-result : goal.overflow_sub-result
overflow_sub-result c =
    let s = c.self.inside in
    omega (arith, waiting_long _ _ _ _ c.self.invariant, s.waiting.ok.0)
