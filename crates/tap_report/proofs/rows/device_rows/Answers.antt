use Rattle.std.proofs.Common.{[], ◌∷◌, ◌++◌, ap, ◌∙◌}
use Rattle.tap_report.proofs.Loops.{device_more}
use Rattle.tap_report.proofs.rows.device_rows.Goals as goal

pub loop-device-preserved : goal.loop-device-preserved
loop-device-preserved c =
    device_more c.args.frames.now c.loop-device.rows _ c.args.names.now c.loop-device.device c.index-names-device.result _ c.loop-device-test.true c.index-names-device.is
    c.loop-device.invariant (c.in_ok-push.ensures.ok ∙ ap (λ r. c.loop-device.rows ++ r ∷ []) c.device_row.ensures)
