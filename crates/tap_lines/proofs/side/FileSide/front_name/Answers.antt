use Rattle.std.proofs.Common.{sym, ◌∙◌}
use Rattle.tap_world.specs.Line.{in_batch}
use Rattle.tap_lines.proofs.Changed.{get_there}
use Rattle.tap_lines.proofs.Numbers.{front_name_is}
use Rattle.tap_lines.proofs.Places.{first_at}
use Rattle.tap_lines.proofs.side.FileSide.front_name.Goals as goal

pub name_at-requires : goal.name_at-requires
name_at-requires c =
    let a = first_at in_batch c.self.inside.line.line c.in-Some.index (sym c.batch_front.ensures ∙ c.in-Some.is) in
    get_there c.self.inside.line.line c.in-Some.index a.0 a.1

pub returns-in-Some : goal.returns-in-Some
returns-in-Some c =
    rw (← c.self.view_is) (front_name_is c.self.inside.line.line c.in-Some.index _ (sym c.batch_front.ensures ∙ c.in-Some.is) c.name_at.ensures)
