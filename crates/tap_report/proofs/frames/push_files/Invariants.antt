use Rattle.std.proofs.Common.{◌≡◌, ◌++◌, take}
use Rattle.std.specs.List.{flat_map}
use Rattle.tap_report.specs.Frames.{file_frames}
use Rattle.tap_report.proofs.frames.push_files.Given as goal

abbrev pub invariant-loop-file : goal.invariant-loop-file
invariant-loop-file l = l.out ≡ l.fn.out ++ flat_map (file_frames l.index) (take l.file-index l.files)
