use Rattle.std.proofs.Common.{refl}
use Rattle.tap_report.specs.ReportText.{file_line}
use Rattle.tap_report.proofs.Loops.{text_more}
use Rattle.tap_report.proofs.printing.put_files.Goals as goal

pub loop-row-preserved : goal.loop-row-preserved
loop-row-preserved c = text_more file_line _ _ _ c.args.rows.now c.loop-row.row-index _ _ c.loop-row-test.true refl c.loop-row.invariant c.in_ok-put_file.ensures
