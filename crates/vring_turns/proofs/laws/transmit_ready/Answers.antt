use Rattle.vring_turns.proofs.TxReadies.{begun, run_stays, there_is}
use Rattle.vring_turns.proofs.laws.transmit_ready.Goals as goal

pub returns-clause-begins : goal.returns-clause-begins
returns-clause-begins c = begun

pub returns-clause-stays : goal.returns-clause-stays
returns-clause-stays c = run_stays

pub returns-clause-goes_on : goal.returns-clause-goes_on
returns-clause-goes_on c = there_is c.empty_is_not_crowded.ensures
