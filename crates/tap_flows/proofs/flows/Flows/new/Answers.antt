use Rattle.std.proofs.Common.{ap}
use Rattle.tap_flows.specs.declared.heads.Limit.{Limit}
use Rattle.tap_flows.proofs.FlowLemmas.{new_value}
use Rattle.tap_flows.proofs.flows.Flows.new.Goals as goal

pub returns : goal.returns
returns c = record { empty = new_value c.in_ok-new.field-0 c.args.limit c.args.age (ap (λ (l : Limit). l.nodes) c.in_ok-new.ensures.limit) c.in_ok-new.ensures.empty }
