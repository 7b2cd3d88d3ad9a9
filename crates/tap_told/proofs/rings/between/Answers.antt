use Rattle.tap_told.proofs.Positions.{cut_out}
use Rattle.tap_told.proofs.rings.between.Goals as goal

pub returns : goal.returns
returns c = cut_out c.args.journal.now c.args.start c.args.end c.min.result c.min-end.result c.min-end.ensures c.min.ensures
