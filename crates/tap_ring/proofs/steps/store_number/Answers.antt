use Rattle.std.proofs.Common.{arith, refl}
use Rattle.tap_ring.proofs.Putting.{puts}
use Rattle.tap_ring.proofs.steps.store_number.Goals as goal

pub store-requires : goal.store-requires
store-requires c = (c.requires.ring.0, omega (arith, c.requires.ring.1), puts _ _ _ _ _ _ _ _ c.args.seat.now.me c.requires.claim.1 c.requires.claim.2 c.requires.claim.3 refl c.requires.claim.4)
