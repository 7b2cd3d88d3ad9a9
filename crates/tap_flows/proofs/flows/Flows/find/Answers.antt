use Rattle.std.proofs.Common.{ap, sym, ◌∙◌}
use Rattle.tap_flows.specs.Flow.{FlowTable}
use Rattle.tap_flows.specs.FlowList.{found}
use Rattle.tap_flows.proofs.FlowLemmas.{found_queue, absent_queue}
use Rattle.tap_flows.proofs.flows.Flows.find.Goals as goal

pub returns-in_err-node : goal.returns-in_err-node
returns-in_err-node c =
    c.from_residual.ensures ∙ sym (absent_queue c.self.inside.table c.args.hash c.in_err-node.ensures.absent)
    ∙ ap (λ (t : FlowTable). found t.flows c.args.hash) c.self.view_is

pub returns : goal.returns
returns c =
    c.index_at.ensures ∙ found_queue c.self.inside.table c.self.invariant.0 c.args.hash c.in_ok-node.node.number c.self.invariant.1 c.in_ok-node.ensures.found
    ∙ ap (λ (t : FlowTable). found t.flows c.args.hash) c.self.view_is
