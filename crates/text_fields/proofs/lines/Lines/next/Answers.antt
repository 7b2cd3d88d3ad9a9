use Rattle.std.proofs.Common.{sym, ◌∙◌}
use Rattle.text_fields.proofs.Cuts.{line_cut}
use Rattle.text_fields.proofs.lines.Lines.next.Goals as goal

pub returns-in-Some : goal.returns-in-Some
returns-in-Some c = sym c.self.view_is ∙ line_cut c.self.inside.rest.now c.in-Some.line.now c.in-Some.rest.now c.in-Some.ensures
