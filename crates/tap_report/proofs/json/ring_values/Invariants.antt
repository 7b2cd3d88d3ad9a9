use Rattle.std.proofs.Common.{◌≡◌, map, take}
use Rattle.serde_json.specs.View.{view}
use Rattle.tap_report.specs.Json.{ring_data}
use Rattle.tap_report.proofs.json.ring_values.Given as goal

abbrev pub invariant-loop-row : goal.invariant-loop-row
invariant-loop-row l = map view l.values.items ≡ map ring_data (take l.row-index l.rows)
