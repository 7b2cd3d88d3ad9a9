use Rattle.std.proofs.Common.{sym, ◌∙◌}
use Rattle.trace_text.specs.Building.{with_chain}
use Rattle.trace_text.proofs.Adds.{behind_put, behind_refused}
use Rattle.trace_text.proofs.phases.put_chain.Goals as goal

pub returns-in_default-2 : goal.returns-in_default-2
returns-in_default-2 c =
    behind_refused (with_chain c.args.chain) c.args.phase.now c.pop.new.self c.in-Some.line c.in-Some.ensures (sym c.in_ok-answer.ensures ∙ c.in_default-2.is)

pub returns : goal.returns
returns c =
    behind_put (with_chain c.args.chain) c.args.phase.now c.pop.new.self c.push.new.self c.in-Some.line c.in-Some-2.answer c.in-Some.ensures (sym c.in_ok-answer.ensures ∙ c.in-Some-2.is) c.in_ok-push.ensures.ok
