use Rattle.std.proofs.Common.{◌≤◌, length, ap, sym, subst, ◌∙◌}
use Rattle.tap_flows.specs.Flow.{FlowTable}
use Rattle.tap_flows.specs.FlowList.{AreInOrder}
use Rattle.tap_flows.specs.Nodes.{contents}
use Rattle.tap_flows.proofs.FlowLemmas.{len_is, few}
use Rattle.tap_flows.proofs.ListLemmas.{in_order}
use Rattle.tap_flows.proofs.flows.Flows.len.Goals as goal

pub returns-clause-len : goal.returns-clause-len
returns-clause-len c = sym (len_is c.self.inside.table c.self.invariant.0 c.self.invariant.1) ∙ ap (λ (t : FlowTable). length t.flows) c.self.view_is

pub returns-clause-few : goal.returns-clause-few
returns-clause-few c = subst (λ (t : FlowTable). c.self.inside.table.len ≤ t.limit) c.self.view_is (few c.self.inside.table c.self.invariant.0 c.self.invariant.1)

pub returns-clause-in_order : goal.returns-clause-in_order
returns-clause-in_order c = subst (λ (t : FlowTable). AreInOrder t.flows) c.self.view_is (in_order (contents c.self.inside.table.nodes.items))
