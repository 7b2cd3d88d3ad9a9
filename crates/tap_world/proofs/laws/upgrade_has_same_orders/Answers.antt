use Rattle.tap_world.proofs.laws.upgrade_has_same_orders.Goals as goal

pub returns : goal.returns
returns c = λ s seed es w. (λ x. x, λ x. x)
