use Rattle.std.proofs.Common.{◌≡◌, map, take}
use Rattle.serde_json.specs.View.{view}
use Rattle.tap_report.specs.Json.{device_data}
use Rattle.tap_report.proofs.json.device_values.Given as goal

abbrev pub invariant-loop-row : goal.invariant-loop-row
invariant-loop-row l = map view l.values.items ≡ map device_data (take l.row-index l.rows)
