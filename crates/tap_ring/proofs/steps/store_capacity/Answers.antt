use Rattle.std.proofs.Common.{arith, rules, ◌≡◌}
use Rattle.tap_ring.proofs.Gates.{stores}
use Rattle.tap_ring.proofs.steps.store_capacity.Goals as goal

pub store-requires : goal.store-requires
store-requires c = (c.requires.ring.0, omega (arith, c.requires.ring.1, c.requires.resizes.1), stores _ _ _ _ _ c.args.seat.now.me c.requires.keeper (omega (arith, c.requires.resizes.0)) (omega (arith, c.requires.resizes.0, c.requires.resizes.1)) (let is : c.from-2.result ≡ c.args.capacity = search rules in omega (arith, is, c.requires.capacity)))
