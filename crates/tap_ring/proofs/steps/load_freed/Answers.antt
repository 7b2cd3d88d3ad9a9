use Rattle.std.proofs.Common.{arith}
use Rattle.tap_ring.proofs.Loads.{loads_freed}
use Rattle.tap_ring.proofs.steps.load_freed.Goals as goal

pub load-requires : goal.load-requires
load-requires c = (c.requires.ring.0, omega (arith, c.requires.ring.1), loads_freed _ _ _ _ c.requires.live)
