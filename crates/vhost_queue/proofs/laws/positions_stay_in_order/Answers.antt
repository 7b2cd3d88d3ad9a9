use Rattle.vhost_queue.proofs.Orders.{published_in_order}
use Rattle.vhost_queue.proofs.laws.positions_stay_in_order.Goals as goal

pub returns-clause-published : goal.returns-clause-published
returns-clause-published c = published_in_order
