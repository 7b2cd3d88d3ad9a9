use Rattle.scen_text.specs.Building.{standing}
use Rattle.scen_text.proofs.Steps.{late}
use Rattle.scen_text.proofs.builder.Builder.declare.Goals as goal

pub returns-then-self : goal.returns-then-self
returns-then-self c = late (standing c.args.self.now) c.args.last c.args.word c.args.values.now c.if-self.true
