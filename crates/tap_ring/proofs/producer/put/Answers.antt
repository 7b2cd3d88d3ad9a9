use Rattle.std.proofs.Common.{rules, ◌<◌, ◌+◌}
use Rattle.tap_ring.specs.GateWord.{claimed_of}
use Rattle.tap_ring.proofs.Causes.{placed_then, missed_then}
use Rattle.tap_ring.proofs.producer.put.Goals as goal

pub returns-in-Ok-clause-placed : goal.returns-in-Ok-clause-placed
returns-in-Ok-clause-placed c =
    let a = c.load_gate-gate.ensures.told in
    let b = c.load_capacity-capacity.ensures.told in
    let d = c.load_freed-freed.ensures.told in
    let free : claimed_of c.load_gate-gate.result < c.load_freed-freed.result + c.load_capacity-capacity.result = search rules in
    placed_then _ _ _ _ _ _ _ _ _ _ _ a.0 d.0 a.1 a.2 a.3 b.0 b.1 d.1 d.2 d.3 c.in_default.ensures free c.in-Ok.ensures.placed

pub returns-in-Err-clause-cause : goal.returns-in-Err-clause-cause
returns-in-Err-clause-cause c =
    let a = c.load_gate-gate.ensures.told in
    let b = c.load_capacity-capacity.ensures.told in
    let d = c.load_freed-freed.ensures.told in
    let free : claimed_of c.load_gate-gate.result < c.load_freed-freed.result + c.load_capacity-capacity.result = search rules in
    missed_then _ _ _ _ _ _ _ _ _ _ _ a.0 d.0 a.1 a.2 a.3 b.0 b.1 d.1 d.2 d.3 c.in_default.ensures free c.resizes_of-resizes.ensures c.in-Err.ensures.missed.1
