use Rattle.std.proofs.Common.{◌≡◌, take}
use Rattle.tap_world.specs.Project.{place_lines}
use Rattle.tap_told.proofs.files.place_lines.Given as goal

abbrev pub invariant-loop-index : goal.invariant-loop-index
invariant-loop-index l = l.lines ≡ place_lines l.first (take l.index l.line)
