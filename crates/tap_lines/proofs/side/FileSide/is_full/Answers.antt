use Rattle.tap_world.specs.Line.{File}
use Rattle.tap_lines.specs.Held.{placed_of}
use Rattle.tap_lines.proofs.Numbers.{full_is}
use Rattle.tap_lines.proofs.side.FileSide.is_full.Goals as goal

pub returns : goal.returns
returns c = let f : File = (placed_of c.self.inside).file in rw (← c.self.view_is, c.in_ring.ensures, c.from.ensures) (full_is f)
