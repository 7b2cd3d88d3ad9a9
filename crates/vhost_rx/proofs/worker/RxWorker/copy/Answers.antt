use Rattle.std.proofs.Common.{ap, sym, ◌∙◌, subst}
use Rattle.vhost_rx.specs.Worker.{Worker, IsSteady}
use Rattle.vhost_rx.specs.View.{worker_of}
use Rattle.vhost_rx.proofs.Copied.{copied_steady}
use Rattle.vhost_rx.proofs.worker.RxWorker.copy.Goals as goal

pub returns-clause-steady : goal.returns-clause-steady
returns-clause-steady c =
    let P : Worker → Type 0 = λ w. IsSteady w c.args.vq.now in
    rw (c.finish.ensures.chains, c.finish.ensures.queue, c.len-count.ensures)
    (copied_steady (worker_of c.self.inside) c.args.vq.now c.need-need.result
    (subst P (sym c.self.view_is) c.requires.steady)
    (ap (λ w. w.turn.stage) c.self.view_is ∙ c.requires.stage))
