use Rattle.std.proofs.Common.{sym}
use Rattle.trace_text.proofs.Lines.{cut_at, not_cut}
use Rattle.trace_text.proofs.cuts.cut_line.Goals as goal

pub returns-in-Some : goal.returns-in-Some
returns-in-Some c = cut_at c.args.bytes.now c.in-Some.place (sym c.in-Some.ensures.place)

pub returns-in-None : goal.returns-in-None
returns-in-None c = not_cut c.args.bytes.now (sym c.in-None.ensures.place)
