use Rattle.tap_flows.specs.FlowList.{AreNotAfter}
use Rattle.bench_table.proofs.flows.table.learn_all.Given as goal

abbrev pub invariant-loop-call : goal.invariant-loop-call
invariant-loop-call l = AreNotAfter 1000000 l.flows.flows
