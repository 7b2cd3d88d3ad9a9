use Rattle.vring_turns.proofs.TxEnds.{run_tells, whole_ends}
use Rattle.vring_turns.proofs.laws.transmit_ends.Goals as goal

pub returns-clause-tell : goal.returns-clause-tell
returns-clause-tell c = run_tells

pub returns-clause-end : goal.returns-clause-end
returns-clause-end c = λ header first backed q ms t' end h.
    whole_ends backed q.stopped header first q ms t' end h
