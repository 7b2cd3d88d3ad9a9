use Rattle.vring_turns.proofs.Standings.{order_laws}
use Rattle.vring_turns.proofs.RxStandings.{begun, receive_stands, receive_in_order}
use Rattle.vring_turns.proofs.laws.receive_standing.Goals as goal

pub returns-clause-begins : goal.returns-clause-begins
returns-clause-begins c = begun

pub returns-clause-stands : goal.returns-clause-stands
returns-clause-stands c =
    let k = c.positions_stay_in_order.ensures in
    receive_stands (order_laws k.serves k.rewinds k.done k.published)

pub returns-clause-order : goal.returns-clause-order
returns-clause-order c =
    let k = c.positions_stay_in_order.ensures in
    receive_in_order (order_laws k.serves k.rewinds k.done k.published)
