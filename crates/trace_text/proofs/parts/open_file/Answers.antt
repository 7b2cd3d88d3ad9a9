use Rattle.std.proofs.Common.{◌≡◌, rules, true}
use Rattle.trace_text.specs.Building.{is_at_files}
use Rattle.trace_text.proofs.Adds.{opens_file}
use Rattle.trace_text.proofs.parts.open_file.Goals as goal

pub returns : goal.returns
returns c =
    let at : is_at_files c.args.trace.now ≡ true = search rules in
    opens_file c.args.trace.now c.pop.result c.pop.new.self at c.pop.ensures
