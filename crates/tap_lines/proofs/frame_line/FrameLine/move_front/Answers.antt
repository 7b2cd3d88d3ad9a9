use Rattle.std.proofs.Common.{arith}
use Rattle.tap_world.specs.Line.{in_batch, in_ring}
use Rattle.tap_lines.proofs.Index.{moved_indexed, ready_front_is}
use Rattle.tap_lines.proofs.Places.{count_most, first_within}
use Rattle.tap_lines.proofs.frame_line.FrameLine.move_front.Goals as goal

pub restand-requires : goal.restand-requires
restand-requires c =
    let f = ready_front_is c.self.inside.line.items c.args.index (rw (← c.self.view_is) at c.requires) in
    first_within in_ring _ _ f.first

pub overflow_add-self : goal.overflow_add-self
overflow_add-self c =
    let s = c.self.inside in
    omega (arith, count_most in_batch s.line.items, c.self.invariant.batch, s.line.ok.0, s.line.ok.1, s.line.small)

pub invariant_of-self : goal.invariant_of-self
invariant_of-self c =
    rw c.restand.ensures (moved_indexed _ _ _ _ _ (rw (← c.self.view_is) at c.requires) c.self.invariant)
