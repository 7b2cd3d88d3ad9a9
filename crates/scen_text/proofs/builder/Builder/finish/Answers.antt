use Rattle.scen_text.proofs.Steps.{finished}
use Rattle.scen_text.proofs.builder.Builder.finish.Goals as goal

pub returns : goal.returns
returns c = λ said keeps. finished c.args.version c.args.self c.close.new.self said c.in_ok-close.ensures.standing c.in_ok-close.ensures.phases keeps
