use Rattle.tap_flows.specs.FlowList.{AreNotAfter}
use Rattle.tap_flows.proofs.tests.fills.Given as goal

abbrev pub invariant-loop-hash : goal.invariant-loop-hash
invariant-loop-hash g l = AreNotAfter 0 l.flows.flows
