use Rattle.std.proofs.Common.{map, take}
use Rattle.tap_report.specs.Report.{CountsCapped}
use Rattle.tap_report.specs.Rows.{fate_and_len}
use Rattle.tap_report.proofs.rows.total.Given as goal

abbrev pub invariant-loop-frame : goal.invariant-loop-frame
invariant-loop-frame l = CountsCapped l.counters (map fate_and_len (take l.frame-index l.frames))
