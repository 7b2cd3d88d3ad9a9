use Rattle.vring_turns.proofs.Standings.{order_laws}
use Rattle.vring_turns.proofs.RxReadies.{begun, run_stays, there_is}
use Rattle.vring_turns.proofs.laws.receive_ready.Goals as goal

pub returns-clause-begins : goal.returns-clause-begins
returns-clause-begins c = begun

pub returns-clause-stays : goal.returns-clause-stays
returns-clause-stays c =
    let k = c.positions_stay_in_order.ensures in
    run_stays (order_laws k.serves k.rewinds k.done k.published)

pub returns-clause-goes_on : goal.returns-clause-goes_on
returns-clause-goes_on c = there_is
