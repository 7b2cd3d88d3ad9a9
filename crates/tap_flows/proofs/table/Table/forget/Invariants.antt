use Rattle.tap_flows.proofs.TickStep.{IsForgetting}
use Rattle.tap_flows.proofs.table.Table.forget.Given as goal

abbrev pub invariant-loop : goal.invariant-loop
invariant-loop l = IsForgetting l.fn.self l.self l.index l.node.number l.counter l.end
