use Rattle.std.proofs.Common.{rules}
use Rattle.tap_core.proofs.Counting.{has_16_bits}
use Rattle.tap_core.proofs.run.Core.actors.Goals as goal

pub overflow_cast-result : goal.overflow_cast-result
overflow_cast-result c =
    let i = c.self.inside in
    let few = has_16_bits i.scenario.now i.begun i.shared i.actors i.said.items c.self.invariant in
    search rules
