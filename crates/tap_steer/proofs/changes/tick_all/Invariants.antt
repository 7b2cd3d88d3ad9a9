use Rattle.std.proofs.Common.{◌≡◌, ◌++◌, map, take, drop}
use Rattle.tap_steer.specs.After.{aged}
use Rattle.tap_steer.proofs.changes.tick_all.Given as goal

-- the names so far are aged, and the others as they were
abbrev pub invariant-loop-slot : goal.invariant-loop-slot
invariant-loop-slot l = l.slots ≡ map (aged l.now) (take l.slot-index l.fn.slots) ++ drop l.slot-index l.fn.slots
