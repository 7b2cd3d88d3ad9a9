use Rattle.std.specs.FinMap.{same_entries_map}
use Rattle.tap_flows.proofs.ListLemmas.{in_order, some_map}
use Rattle.tap_flows.proofs.laws.lists_are_maps.Goals as goal

pub returns : goal.returns
returns c = record { in_order = in_order; some = some_map; one = same_entries_map }
