use Rattle.tap_world.proofs.Order as order
use Rattle.tap_world.proofs.laws.leave_in_order.Goals as goal

pub returns : goal.returns
returns c = order.leave_in_order
