use Rattle.std.proofs.Common.{arith, ◌+◌, ℕ, ap}
use Rattle.tap_ring.proofs.Fronts.{loads_front}
use Rattle.tap_ring.proofs.steps.load_front.Goals as goal

pub load-requires : goal.load-requires
load-requires c = (c.requires.ring.0, omega (arith, c.requires.ring.1), loads_front _ _ _ _ c.args.seat.now.me c.requires.consumer.0 c.requires.consumer.1 (ap (λ (m : ℕ). 130 + m) c.requires.slot))
