use Rattle.std.proofs.Common.{◌≡◌, Some, sym, ap, ◌∙◌}
use Rattle.tap_world.specs.Line.{File, first_that, in_batch}
use Rattle.tap_lines.specs.Framed.{Framed}
use Rattle.tap_lines.specs.Held.{placed_of}
use Rattle.tap_lines.specs.Indexed.{to_be_taken}
use Rattle.tap_lines.proofs.Changed.{goes, stands_there, take_has, take_is, take_placed}
use Rattle.tap_lines.proofs.side.FileSide.take.Goals as goal

pub unwrap-index-requires : goal.unwrap-index-requires
unwrap-index-requires c =
    let f : File = (placed_of c.self.inside).file in
    let t = take_is c.args.vhost f (rw (← c.self.view_is) at c.requires) in
    rw (c.batch_front.ensures, c.fill_empty.ensures.filled) t.front

pub take_frame-requires : goal.take_frame-requires
take_frame-requires c =
    let f : File = (placed_of c.self.inside).file in
    let t = take_is c.args.vhost f (rw (← c.self.view_is) at c.requires) in
    let found : first_that in_batch c.fill_empty.new.self.line ≡ Some c.unwrap-index.result = sym c.batch_front.ensures ∙ c.unwrap-index.ensures in
    let first = rw c.fill_empty.ensures.filled at found in
    rw c.fill_empty.ensures.filled
    (stands_there (to_be_taken f.line) _ _ (take_has f _ _ t.free first c.fill_empty.ensures.parted c.self.invariant))

pub invariant_of-self : goal.invariant_of-self
invariant_of-self c =
    let f : File = (placed_of c.self.inside).file in
    let t = take_is c.args.vhost f (rw (← c.self.view_is) at c.requires) in
    let found : first_that in_batch c.fill_empty.new.self.line ≡ Some c.unwrap-index.result = sym c.batch_front.ensures ∙ c.unwrap-index.ensures in
    let first = rw c.fill_empty.ensures.filled at found in
    rw (c.take_frame.ensures.gone, c.fill_empty.ensures.filled)
    (take_placed c.args.vhost f _ _ t.free first c.fill_empty.ensures.parted c.self.invariant)

pub returns-clause-file : goal.returns-clause-file
returns-clause-file c =
    let f : File = (placed_of c.self.inside).file in
    let t = take_is c.args.vhost f (rw (← c.self.view_is) at c.requires) in
    rw (← c.self.view_is, c.take_frame.ensures.gone, c.fill_empty.ensures.filled) t.new

pub returns-clause-frame : goal.returns-clause-frame
returns-clause-frame c =
    let f : File = (placed_of c.self.inside).file in
    let t = take_is c.args.vhost f (rw (← c.self.view_is) at c.requires) in
    let found : first_that in_batch c.fill_empty.new.self.line ≡ Some c.unwrap-index.result = sym c.batch_front.ensures ∙ c.unwrap-index.ensures in
    let first = rw c.fill_empty.ensures.filled at found in
    let gone = ap (λ (x : Framed). x.frames) c.take_frame.ensures.gone in
    let line = ap (λ (x : Framed). x.line) c.take_frame.ensures.gone in
    rw (← c.self.view_is, line, c.fill_empty.ensures.filled)
    (goes (to_be_taken f.line) c.self.inside.line.frames _ _ _ _ first (take_has f _ _ t.free first c.fill_empty.ensures.parted c.self.invariant)
    (rw c.fill_empty.ensures.filled at c.take_frame.ensures.stood) (rw c.fill_empty.ensures.filled at gone))
