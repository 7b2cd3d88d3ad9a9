use Rattle.std.proofs.Common.{◌≡◌, ◌++◌, drop}
use Rattle.tap_world.specs.Project.{lists_from}
use Rattle.tap_told.proofs.rings.position_lists.Given as goal

abbrev pub invariant-loop-index : goal.invariant-loop-index
invariant-loop-index l = l.told ++ lists_from (drop l.index l.lists) l.journal ≡ lists_from l.lists l.journal
