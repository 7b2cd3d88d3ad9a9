use Rattle.tap_report.specs.Frames.{file_frames}
use Rattle.tap_report.proofs.Loops.{appended}
use Rattle.tap_report.proofs.frames.push_files.Goals as goal

pub loop-file-preserved : goal.loop-file-preserved
loop-file-preserved c = appended (file_frames c.args.index.now) c.args.out.now _ _ c.args.files.now c.loop-file.file-index c.file-item.result _ c.loop-file-test.true c.file-item.is c.loop-file.invariant c.in_ok-push_file.ensures
