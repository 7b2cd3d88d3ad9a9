use Rattle.std.proofs.Common.{sym, ◌∙◌, arith}
use Rattle.tap_world.specs.Line.{in_batch}
use Rattle.core_rings.proofs.Reading.{first_within}
use Rattle.core_rings.proofs.taking.batch_place.Goals as goal

pub overflow_add-result : goal.overflow_add-result
overflow_add-result c =
    let below = first_within in_batch c.args.side.now.file.line c.unwrap.result (sym c.batch_front.ensures ∙ c.unwrap.ensures) in
    omega (arith, below, c.first.ensures, c.requires.places)
