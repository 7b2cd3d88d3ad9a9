use Rattle.scen_plain.proofs.Traces.{one_trace, same_traces}
use Rattle.scen_plain.proofs.laws.plain_traces.Goals as goal

pub returns-clause-one : goal.returns-clause-one
returns-clause-one c = one_trace c.one_order.ensures

pub returns-clause-upgrade : goal.returns-clause-upgrade
returns-clause-upgrade c = same_traces c.upgrade_has_same_orders.ensures
