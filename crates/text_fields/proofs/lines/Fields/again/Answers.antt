use Rattle.text_fields.proofs.Cuts.{few_fields}
use Rattle.text_fields.proofs.lines.Fields.again.Goals as goal

pub returns-clause-bound : goal.returns-clause-bound
returns-clause-bound c = rw (← c.self.view_is) (few_fields c.self.inside.rest c.self.invariant)
