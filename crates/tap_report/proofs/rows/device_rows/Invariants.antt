use Rattle.std.proofs.Common.{◌≡◌, take}
use Rattle.tap_report.specs.Rows.{device_rows}
use Rattle.tap_report.proofs.rows.device_rows.Given as goal

abbrev pub invariant-loop-device : goal.invariant-loop-device
invariant-loop-device l = l.rows ≡ device_rows l.frames 0 (take l.device l.names)
