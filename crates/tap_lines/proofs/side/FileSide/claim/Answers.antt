use Rattle.tap_world.specs.Line.{File}
use Rattle.tap_lines.specs.Held.{placed_of}
use Rattle.tap_lines.proofs.Changed.{claim_placed}
use Rattle.tap_lines.proofs.side.FileSide.claim.Goals as goal

pub invariant_of-self-2 : goal.invariant_of-self-2
invariant_of-self-2 c =
    let f : File = (placed_of c.self.inside).file in
    rw (c.in_ok-push.ensures.line, c.in_ok-push.ensures.frames)
    (claim_placed c.args.actor c.args.name c.args.epoch c.args.len f c.self.inside.line.frames (rw (← c.self.view_is) at c.requires) c.self.invariant)
