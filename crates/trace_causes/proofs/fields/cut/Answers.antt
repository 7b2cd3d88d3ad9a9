use Rattle.std.proofs.Common.{sym}
use Rattle.trace_causes.proofs.Cuts.{cut_at_place, not_cut}
use Rattle.trace_causes.proofs.fields.cut.Goals as goal

pub returns-in-Some : goal.returns-in-Some
returns-in-Some c = cut_at_place c.args.at c.args.field.now c.in-Some.place (sym c.in-Some.ensures.place)

pub returns-in-None : goal.returns-in-None
returns-in-None c = not_cut c.args.at c.args.field.now (sym c.in-None.ensures.place)
