use Rattle.tap_report.specs.ReportText.{device_line}
use Rattle.tap_report.proofs.Loops.{text_more}
use Rattle.tap_report.proofs.printing.put_devices.Goals as goal

pub loop-row-preserved : goal.loop-row-preserved
loop-row-preserved c = text_more device_line _ _ _ c.args.rows.now c.loop-row.row-index c.row-item.result _ c.loop-row-test.true c.row-item.is c.loop-row.invariant c.in_ok-put_device.ensures
