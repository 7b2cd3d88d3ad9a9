use Rattle.vhost_tx.proofs.Steady.{off_steady}
use Rattle.vhost_tx.proofs.worker.TxWorker.notices_off.Goals as goal

pub returns-clause-step : goal.returns-clause-step
returns-clause-step c = λ host. rw (← c.after_notices-stage.ensures) (c.notices.ensures.step host)

pub returns-clause-steady : goal.returns-clause-steady
returns-clause-steady c =
    rw (c.notices.ensures.worker, c.notices.ensures.queue, c.after_notices-stage.ensures)
    (off_steady c.args.self.now c.args.vq.now c.args.fault c.requires.steady c.requires.stage)
