use Rattle.std.proofs.Common.{◌≡◌, length}
use Rattle.tap_bridge.specs.Bridge.{young}
use Rattle.tap_bridge.specs.Kept.{StandAt, AreInOrder, IsPartOf}
use Rattle.tap_bridge.proofs.table.drop_old.Given as goal

-- what is left has the same young entries, and each address stands under its time
abbrev pub invariant-loop-address : goal.invariant-loop-address
invariant-loop-address l = record {
  same : young l.now l.by_address.entries ≡ young l.now l.fn.by_address.entries;
  ordered : AreInOrder l.by_address.entries;
  timed : StandAt l.by_time.keys l.by_address.entries;
  part : IsPartOf l.fn.by_address.entries l.by_address.entries;
}

abbrev pub decreases-loop-address : goal.decreases-loop-address
decreases-loop-address l = length l.by_time.keys
