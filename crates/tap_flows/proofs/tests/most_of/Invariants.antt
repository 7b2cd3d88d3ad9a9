use Rattle.std.proofs.Common.{◌<◌, ◌^◌}
use Rattle.tap_flows.specs.FlowList.{AreNotAfter}
use Rattle.tap_flows.proofs.tests.most_of.Given as goal

-- no flow is of a later time
abbrev pub invariant-loop : goal.invariant-loop
invariant-loop g l = (l.now < 2 ^ 64) × AreNotAfter l.now l.flows.flows
