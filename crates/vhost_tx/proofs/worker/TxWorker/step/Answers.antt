use Rattle.vhost_tx.proofs.Told.{event_of-tx_told}
use Rattle.vhost_tx.proofs.worker.TxWorker.step.Goals as goal

pub returns-in-Some-clause-event : goal.returns-in-Some-clause-event
returns-in-Some-clause-event g c = rw (c.told.ensures, event_of-tx_told) c.in-Some.ensures.event
