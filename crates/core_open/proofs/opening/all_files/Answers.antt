use Rattle.std.proofs.Common.{◌≤◌}
use Rattle.tap_lines.specs.declared.side.TheConstants.{MOST_PLACES}
use Rattle.tap_world.specs.Setup.{Declared}
use Rattle.core_open.proofs.Folding.{each_here}
use Rattle.core_open.proofs.opening.all_files.Goals as goal

pub file_of-requires : goal.file_of-requires
file_of-requires c =
    each_here (λ (d : Declared). d.first ≤ MOST_PLACES) c.args.declared.now c.loop-file.file-index _ c.loop-file-test.true
    c.file-item.is c.requires
