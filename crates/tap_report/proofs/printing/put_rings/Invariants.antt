use Rattle.std.proofs.Common.{◌≡◌, ◌++◌, take, map, string_bytes}
use Rattle.scen_words.specs.Field.{text}
use Rattle.tap_report.specs.ReportText.{ring_line}
use Rattle.tap_report.proofs.printing.put_rings.Given as goal

abbrev pub invariant-loop-row : goal.invariant-loop-row
invariant-loop-row l = string_bytes l.out ≡ string_bytes l.fn.out ++ text (map ring_line (take l.row-index l.rows))
