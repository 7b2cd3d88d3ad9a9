use Rattle.std.proofs.Common.{eqb, sym}
use Rattle.text_fields.proofs.Cuts.{cut_at, not_cut}
use Rattle.text_fields.proofs.lines.cut.Goals as goal

pub returns-in-Some : goal.returns-in-Some
returns-in-Some c = cut_at (λ b. eqb b c.args.at) c.args.bytes.now c.in-Some.place (sym c.in-Some.ensures.place)

pub returns-in-None : goal.returns-in-None
returns-in-None c = not_cut (λ b. eqb b c.args.at) c.args.bytes.now (sym c.in-None.ensures.place)
