use Rattle.std.proofs.Common.{arith}
use Rattle.tap_lines.proofs.Index.{put_claims, put_indexed}
use Rattle.tap_lines.proofs.frame_line.FrameLine.ready.Goals as goal

pub overflow_sub-self : goal.overflow_sub-self
overflow_sub-self c =
    omega (arith, put_claims c.args.index c.self.inside.line.items (rw (← c.self.view_is) at c.requires), c.self.invariant.open_claims)

pub invariant_of-self : goal.invariant_of-self
invariant_of-self c =
    rw c.restand.ensures (put_indexed _ _ _ _ _ (rw (← c.self.view_is) at c.requires) c.self.invariant)
