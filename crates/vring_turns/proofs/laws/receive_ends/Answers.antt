use Rattle.vring_turns.proofs.Standings.{order_laws}
use Rattle.vring_turns.proofs.RxEnds.{run_tells, whole_ends, all_short}
use Rattle.vring_turns.proofs.laws.receive_ends.Goals as goal

pub returns-clause-tell : goal.returns-clause-tell
returns-clause-tell c = run_tells

pub returns-clause-end : goal.returns-clause-end
returns-clause-end c = λ mergeable header backed q ms t' end h.
    whole_ends backed q.stopped mergeable header q ms t' end h

pub returns-clause-short : goal.returns-clause-short
returns-clause-short c =
    let k = c.positions_stay_in_order.ensures in
    all_short (order_laws k.serves k.rewinds k.done k.published)
