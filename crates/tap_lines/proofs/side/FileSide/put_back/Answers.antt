use Rattle.std.proofs.Common.{sym, ◌∙◌}
use Rattle.tap_world.specs.Line.{File}
use Rattle.tap_lines.specs.Held.{placed_of}
use Rattle.tap_lines.proofs.Changed.{front_is_there, put_back_is, put_back_placed, put_back_within}
use Rattle.tap_lines.proofs.side.FileSide.put_back.Goals as goal

pub unwrap-index-requires : goal.unwrap-index-requires
unwrap-index-requires c =
    let f : File = (placed_of c.self.inside).file in
    rw c.batch_front.ensures (front_is_there f _ (put_back_is c.args.vhost f (rw (← c.self.view_is) at c.requires.in_hand)) c.self.invariant)

pub put_frame-requires : goal.put_frame-requires
put_frame-requires c =
    let f : File = (placed_of c.self.inside).file in
    put_back_within f _ _ (sym c.batch_front.ensures ∙ c.unwrap-index.ensures) c.self.invariant

pub invariant_of-self : goal.invariant_of-self
invariant_of-self c =
    let f : File = (placed_of c.self.inside).file in
    rw c.put_frame.ensures
    (put_back_placed f _ _ _ (put_back_is c.args.vhost f (rw (← c.self.view_is) at c.requires.in_hand)) (sym c.batch_front.ensures ∙ c.unwrap-index.ensures)
    (rw (← c.self.view_is) at c.requires.frame) c.self.invariant)
