use Rattle.std.proofs.Common.{sym, ◌∙◌, arith}
use Rattle.tap_world.specs.Line.{File, in_ring}
use Rattle.tap_lines.specs.Held.{placed_of}
use Rattle.tap_lines.proofs.Places.{first_within}
use Rattle.tap_lines.proofs.side.FileSide.front_place.Goals as goal

pub overflow_add-result : goal.overflow_add-result
overflow_add-result c =
    let f : File = (placed_of c.self.inside).file in
    let w = first_within in_ring f.line c.in-Some.index (sym c.ring_front.ensures ∙ c.in-Some.is) in
    omega (arith, w, c.self.invariant.places)
