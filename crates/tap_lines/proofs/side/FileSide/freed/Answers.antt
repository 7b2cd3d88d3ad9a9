use Rattle.std.proofs.Common.{arith}
use Rattle.tap_world.specs.Line.{File}
use Rattle.tap_lines.specs.Held.{placed_of}
use Rattle.tap_lines.proofs.Numbers.{freed_is, ring_most}
use Rattle.tap_lines.proofs.side.FileSide.freed.Goals as goal

pub overflow_sub-result : goal.overflow_sub-result
overflow_sub-result c =
    let f : File = (placed_of c.self.inside).file in
    let k = rw (← c.self.view_is) at c.claimed.ensures in
    omega (arith, ring_most f, k, c.in_ring.ensures)

pub returns : goal.returns
returns c =
    let f : File = (placed_of c.self.inside).file in
    let k = rw (← c.self.view_is) at c.claimed.ensures in
    rw (← c.self.view_is) (omega (arith, freed_is f, k, c.in_ring.ensures))
