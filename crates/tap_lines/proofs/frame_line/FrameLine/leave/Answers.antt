use Rattle.std.proofs.Common.{arith}
use Rattle.tap_lines.proofs.Fronts.{some_count}
use Rattle.tap_lines.proofs.Index.{left_indexed}
use Rattle.tap_lines.proofs.Places.{first_within}
use Rattle.tap_world.specs.Line.{in_batch}
use Rattle.tap_lines.proofs.frame_line.FrameLine.leave.Goals as goal

pub restand-requires : goal.restand-requires
restand-requires c = first_within in_batch _ _ (rw (← c.self.view_is) at c.requires)

pub overflow_sub-self : goal.overflow_sub-self
overflow_sub-self c =
    omega (arith, some_count in_batch c.self.inside.line.items c.args.index (rw (← c.self.view_is) at c.requires), c.self.invariant.batch)

pub invariant_of-self : goal.invariant_of-self
invariant_of-self c =
    rw (c.restand.ensures, c.pop_front.ensures.rest)
    (left_indexed _ _ _ _ _ _ (rw (← c.self.view_is) at c.requires) c.self.invariant)
