use Rattle.std.proofs.Common.{Option}
use Rattle.std.specs.Prelude.{option_map}
use Rattle.tap_lines.specs.Placed.{Placed}
use Rattle.tap_world.specs.Project.{file_part}
use Rattle.tap_told.proofs.Lists.{told_more}
use Rattle.tap_told.proofs.files.file_parts.Goals as goal

pub loop-file-preserved : goal.loop-file-preserved
loop-file-preserved c =
    told_more (λ (p : Option Placed). option_map (λ (x : Placed). x.file) p) file_part _ _ c.args.sides.now c.loop-file.file
    c.index-sides-file.result _ c.loop-file-test.true c.index-sides-file.is c.loop-file.invariant c.in_ok-push_file.ensures
