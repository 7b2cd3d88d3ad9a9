use Rattle.tap_flows.specs.FlowList.{AreNotAfter}
use Rattle.bench_table.proofs.flows.table.filled.Given as goal

abbrev pub invariant-loop-number : goal.invariant-loop-number
invariant-loop-number l = AreNotAfter 1000000 l.flows.flows
