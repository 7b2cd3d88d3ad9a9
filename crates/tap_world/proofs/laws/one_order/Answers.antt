use Rattle.tap_world.proofs.Orders as orders
use Rattle.tap_world.specs.Setup.{setup_of}
use Rattle.tap_world.specs.Runs.{opening}
use Rattle.tap_world.proofs.laws.one_order.Goals as goal

pub returns : goal.returns
returns c = λ s seed es ds w v a b.
    orders.one_order (setup_of s) seed 0 s.phases es ds (opening (setup_of s)) w v a b
