use Rattle.std.proofs.Common.{◌≡◌, rules, true}
use Rattle.trace_text.specs.Building.{none_yet}
use Rattle.trace_text.proofs.Adds.{opens_guest}
use Rattle.trace_text.proofs.parts.open_guest.Goals as goal

pub returns : goal.returns
returns c =
    let at : none_yet c.args.trace.now.rings ≡ true = search rules in
    opens_guest c.args.trace.now c.pop.result c.pop.new.self at c.pop.ensures
