use Rattle.tap_grows.proofs.Orders.{grows_on, grows_to_itself}
use Rattle.tap_grows.proofs.growing_is_an_order.Goals as goal

pub returns-clause-same : goal.returns-clause-same
returns-clause-same c = grows_to_itself

pub returns-clause-on : goal.returns-clause-on
returns-clause-on c = grows_on
