use Rattle.tap_world.specs.Line.{File}
use Rattle.tap_lines.specs.Held.{placed_of}
use Rattle.tap_lines.proofs.Changed.{put_is, put_placed, put_within}
use Rattle.tap_lines.proofs.side.FileSide.put.Goals as goal

pub put_frame-requires : goal.put_frame-requires
put_frame-requires c =
    let f : File = (placed_of c.self.inside).file in
    let p = put_is c.args.actor c.args.place f (rw (← c.self.view_is) at c.requires.claimed) in
    rw (c.ready.ensures, c.saturating_sub-index.ensures) (put_within c.args.actor _ f _ p c.self.invariant)

pub invariant_of-self : goal.invariant_of-self
invariant_of-self c =
    let f : File = (placed_of c.self.inside).file in
    let p = put_is c.args.actor c.args.place f (rw (← c.self.view_is) at c.requires.claimed) in
    rw (c.put_frame.ensures, c.ready.ensures, c.saturating_sub-index.ensures)
    (put_placed c.args.actor _ f _ _ p (rw (← c.self.view_is) at c.requires.frame) c.self.invariant)
