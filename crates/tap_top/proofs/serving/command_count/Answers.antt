use Rattle.std.proofs.Common.{ℕ, ◌+◌, ◌∙◌, ap}
use Rattle.tap_top.proofs.Counted.{count_more}
use Rattle.tap_top.proofs.serving.command_count.Goals as goal

pub loop-phase-preserved : goal.loop-phase-preserved
loop-phase-preserved c =
    count_more c.loop-phase.phase-index c.args.phases.now c.phase-item.result c.phase-item.result c.loop-phase.count c.in_ok-count.count
    c.loop-phase-test.true c.phase-item.is c.loop-phase.invariant (c.in_ok-count.ensures ∙ ap (λ (n : ℕ). c.loop-phase.count + n) c.len.ensures)
