use Rattle.std.proofs.Common.{[]}
use Rattle.tap_report.specs.Index.{phase_settings}
use Rattle.tap_report.proofs.Loops.{appended}
use Rattle.tap_report.proofs.index.settings.Goals as goal

pub loop-phase-preserved : goal.loop-phase-preserved
loop-phase-preserved c = appended (phase_settings c.args.wanted c.args.names.now) [] _ _ c.args.phases.now c.loop-phase.phase-index c.phase-item.result _ c.loop-phase-test.true c.phase-item.is c.loop-phase.invariant c.in_ok-push_settings.ensures
