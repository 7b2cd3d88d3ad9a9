use Rattle.std.proofs.Common.{◌≡◌, take, map}
use Rattle.tap_report.specs.Rows.{file_row}
use Rattle.tap_report.proofs.rows.file_rows.Given as goal

abbrev pub invariant-loop-part : goal.invariant-loop-part
invariant-loop-part l = l.rows ≡ map file_row (take l.part-index l.parts)
