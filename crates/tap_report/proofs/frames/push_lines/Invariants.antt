use Rattle.std.proofs.Common.{◌≡◌, ◌++◌, take, map}
use Rattle.tap_report.specs.Frames.{placed}
use Rattle.tap_report.proofs.frames.push_lines.Given as goal

abbrev pub invariant-loop-line : goal.invariant-loop-line
invariant-loop-line l = l.out ≡ l.fn.out ++ map (placed l.index) (take l.line-index l.lines)
