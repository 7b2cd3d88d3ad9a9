use Rattle.std.proofs.Common.{◌≡◌, rules, true}
use Rattle.trace_text.specs.Building.{is_at_phases}
use Rattle.trace_text.proofs.Adds.{opens_phase}
use Rattle.trace_text.proofs.phases.open_phase.Goals as goal

pub returns : goal.returns
returns c =
    let at : is_at_phases c.args.trace.now ≡ true = search rules in
    opens_phase c.args.trace.now c.pop.result c.pop.new.self at c.pop.ensures
