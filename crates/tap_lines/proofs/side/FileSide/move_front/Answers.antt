use Rattle.std.proofs.Common.{sym, ◌∙◌}
use Rattle.tap_world.specs.Line.{File}
use Rattle.tap_lines.specs.Held.{placed_of}
use Rattle.tap_lines.proofs.Changed.{get_there, move_placed, name_is}
use Rattle.tap_lines.proofs.Index.{ready_front_is}
use Rattle.tap_lines.proofs.side.FileSide.move_front.Goals as goal

pub name_at-name-requires : goal.name_at-name-requires
name_at-name-requires c =
    let r = ready_front_is c.self.inside.line.line _ (sym c.ready_front.ensures.front ∙ c.unwrap-index.ensures) in
    get_there c.self.inside.line.line c.unwrap-index.result r.e r.at

pub invariant_of-self : goal.invariant_of-self
invariant_of-self c =
    let f : File = (placed_of c.self.inside).file in
    rw c.move_front.ensures
    (move_placed f _ _ (sym c.ready_front.ensures.front ∙ c.unwrap-index.ensures) c.ready_front.ensures.parted c.self.invariant)

pub returns-clause-name : goal.returns-clause-name
returns-clause-name c =
    let front = sym c.ready_front.ensures.front ∙ c.unwrap-index.ensures in
    let r = ready_front_is c.self.inside.line.line _ front in
    rw (← c.self.view_is) (name_is c.self.inside.line.line _ _ _ front (get_there c.self.inside.line.line c.unwrap-index.result r.e r.at) c.name_at-name.ensures)
