use Rattle.std.proofs.Common.{◌≡◌, ◌++◌, take, map}
use Rattle.tap_report.specs.Index.{line_role}
use Rattle.tap_report.proofs.index.push_lines.Given as goal

abbrev pub invariant-loop-line : goal.invariant-loop-line
invariant-loop-line l = l.out ≡ l.fn.out ++ map line_role (take l.line-index l.lines)
