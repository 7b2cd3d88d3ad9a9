use Rattle.scen_text.proofs.Steps.{shown_line}
use Rattle.scen_text.proofs.builder.Builder.add_command.Goals as goal

pub returns-clause-phases : goal.returns-clause-phases
returns-clause-phases c =
    rw (c.after-self.ensures, c.in_ok-push_line.ensures) (shown_line c.args.self.now.phases c.args.self.now.place c.args.self.now.lines _)
