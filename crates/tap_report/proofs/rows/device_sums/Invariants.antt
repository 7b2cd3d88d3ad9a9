use Rattle.std.proofs.Common.{◌≡◌, ◌≤◌, take}
use Rattle.tap_report.specs.Rows.{is_dropped, is_received, is_transmitted, of_device}
use Rattle.tap_report.proofs.rows.device_sums.Given as goal

abbrev pub invariant-loop-frame : goal.invariant-loop-frame
invariant-loop-frame l = record {
  few_rx : l.rx ≤ l.frame-index;
  few_tx : l.tx ≤ l.frame-index;
  few_dropped : l.dropped ≤ l.frame-index;
  rx : l.rx ≡ of_device l.device is_received (take l.frame-index l.frames);
  tx : l.tx ≡ of_device l.device is_transmitted (take l.frame-index l.frames);
  dropped : l.dropped ≡ of_device l.device is_dropped (take l.frame-index l.frames);
}
