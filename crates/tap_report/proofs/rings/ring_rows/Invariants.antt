use Rattle.std.proofs.Common.{◌≡◌, take, map}
use Rattle.tap_report.specs.Rows.{ring_row}
use Rattle.tap_report.proofs.rings.ring_rows.Given as goal

abbrev pub invariant-loop-part : goal.invariant-loop-part
invariant-loop-part l = l.rows ≡ map (ring_row l.roles l.turns l.guests) (take l.part-index l.parts)
