use Rattle.std.proofs.Common.{sym, ap, ◌∙◌}
use Rattle.tap_world.specs.Line.{File}
use Rattle.tap_lines.specs.Framed.{Framed}
use Rattle.tap_lines.specs.Held.{placed_of}
use Rattle.tap_lines.proofs.Changed.{front_has, front_leaves, goes, left_changed, left_placed, stands_there}
use Rattle.tap_lines.proofs.side.FileSide.leave.Goals as goal

pub take_frame-requires : goal.take_frame-requires
take_frame-requires c =
    let f : File = (placed_of c.self.inside).file in
    let l = front_leaves c.args.fate f (rw (← c.self.view_is) at c.requires) in
    rw c.leave.ensures (stands_there _ _ _ (front_has f _ _ l.0 (sym c.batch_front.ensures ∙ c.unwrap-index.ensures) c.self.invariant))

pub invariant_of-self : goal.invariant_of-self
invariant_of-self c =
    let f : File = (placed_of c.self.inside).file in
    let l = front_leaves c.args.fate f (rw (← c.self.view_is) at c.requires) in
    rw (c.take_frame.ensures.gone, c.leave.ensures)
    (left_placed c.args.fate f _ _ l.0 (sym c.batch_front.ensures ∙ c.unwrap-index.ensures) c.self.invariant)

pub returns-clause-file : goal.returns-clause-file
returns-clause-file c =
    let f : File = (placed_of c.self.inside).file in
    let l = front_leaves c.args.fate f (rw (← c.self.view_is) at c.requires) in
    rw (← c.self.view_is, c.take_frame.ensures.gone, c.leave.ensures)
    (left_changed c.args.fate f _ l.0 (sym c.batch_front.ensures ∙ c.unwrap-index.ensures))

pub returns-clause-frame : goal.returns-clause-frame
returns-clause-frame c =
    let f : File = (placed_of c.self.inside).file in
    let l = front_leaves c.args.fate f (rw (← c.self.view_is) at c.requires) in
    let first = sym c.batch_front.ensures ∙ c.unwrap-index.ensures in
    let gone = ap (λ (x : Framed). x.frames) c.take_frame.ensures.gone in
    rw (← c.self.view_is)
    (goes f.line c.self.inside.line.frames _ _ _ _ first (front_has f _ _ l.0 first c.self.invariant)
    (rw c.leave.ensures at c.take_frame.ensures.stood) (rw c.leave.ensures at gone))
