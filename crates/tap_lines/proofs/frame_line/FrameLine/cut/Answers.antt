use Rattle.std.proofs.Common.{◌≡◌, length, arith}
use Rattle.std.specs.VecDeque.{deque_len}
use Rattle.tap_lines.proofs.Index.{cut_indexed}
use Rattle.tap_lines.proofs.Places.{last_within}
use Rattle.tap_world.specs.Line.{in_ring}
use Rattle.tap_lines.proofs.frame_line.FrameLine.cut.Goals as goal

pub restand-requires : goal.restand-requires
restand-requires c = last_within in_ring _ _ (rw (← c.self.view_is) at c.requires.last)

pub invariant_of-self : goal.invariant_of-self
invariant_of-self c =
    let w = c.self.inside.waiting in
    let long : deque_len w ≡ length w.items = omega (arith, w.ok.0) in
    rw (c.restand.ensures, c.pop_back.ensures.rest, long)
    (cut_indexed _ _ _ _ _ (rw (← c.self.view_is) at c.requires.last) (rw (← c.self.view_is) at c.requires.put) c.self.invariant)
