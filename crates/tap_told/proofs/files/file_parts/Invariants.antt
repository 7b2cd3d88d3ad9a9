use Rattle.std.proofs.Common.{◌≡◌, take, map}
use Rattle.tap_lines.specs.Files.{files_of}
use Rattle.tap_world.specs.ByNumber.{numbered}
use Rattle.tap_world.specs.Project.{file_part}
use Rattle.tap_told.proofs.files.file_parts.Given as goal

abbrev pub invariant-loop-file : goal.invariant-loop-file
invariant-loop-file l = l.parts ≡ map file_part (numbered 0 (files_of (take l.file l.sides)))
