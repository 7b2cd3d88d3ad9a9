use Rattle.std.proofs.Common.{◌≡◌, map, take}
use Rattle.tap_steer.specs.Table.{new_name}
use Rattle.tap_steer.proofs.state.new_slots.Given as goal

-- the names so far
abbrev pub invariant-loop-limit : goal.invariant-loop-limit
invariant-loop-limit l = l.slots.items ≡ map new_name (take l.limit-index l.flows)
