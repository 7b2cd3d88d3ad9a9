use Rattle.std.proofs.Common.{arith}
use Rattle.tap_ring.proofs.Lifting.{lifts}
use Rattle.tap_ring.proofs.steps.give_front.Goals as goal

pub load-requires : goal.load-requires
load-requires c = (c.requires.ring.0, omega (arith, c.requires.ring.1), lifts _ _ _ _ _ _ _ c.args.seat.now.me c.requires.consumer.0 c.requires.consumer.1.1 c.requires.slot.1 c.requires.slot.0)
