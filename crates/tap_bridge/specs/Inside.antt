-- This project's own: what a bridge keeps between frames.
use Rattle.std.specs.Prelude.{◌≤◌, length}
use Rattle.tap_bridge.specs.declared.address.TheConstants.{MOST}
use Rattle.tap_bridge.specs.declared.bridge.Bridge.TheInside.{Inside}
use Rattle.tap_bridge.specs.Kept.{StandAt, AreInOrder, AreAt}

-- what a bridge keeps: each address under its time, in order, at ports of the last frame, at most 4,096
pub record IsKept (b : Inside) : Type 0 where
  pub timed : StandAt b.by_time.keys b.by_address.entries
  pub ordered : AreInOrder b.by_address.entries
  pub at_ports : AreAt b.ports.items b.by_address.entries
  pub few : length b.by_address.entries ≤ MOST
