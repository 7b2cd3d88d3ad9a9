use Rattle.std.proofs.Common.{◌+◌}
use Rattle.tap_flows.proofs.TickStep.{IsTicking}
use Rattle.tap_flows.proofs.table.Table.tick.Given as goal

abbrev pub invariant-loop : goal.invariant-loop
invariant-loop l = IsTicking l.fn.self l.self l.age l.now (l.self.len + l.counter) l.end
