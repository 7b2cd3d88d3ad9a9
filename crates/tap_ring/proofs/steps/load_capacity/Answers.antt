use Rattle.std.proofs.Common.{arith}
use Rattle.tap_ring.proofs.Loads.{loads_capacity}
use Rattle.tap_ring.proofs.steps.load_capacity.Goals as goal

pub load-requires : goal.load-requires
load-requires c = (c.requires.ring.0, omega (arith, c.requires.ring.1, c.requires.resizes.1), loads_capacity _ _ _ _ _ c.requires.live (omega (arith, c.requires.resizes.0)))
