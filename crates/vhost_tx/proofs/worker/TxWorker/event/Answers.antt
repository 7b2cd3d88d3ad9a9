use Rattle.std.proofs.Common.{sym, ap, ◌∙◌}
use Rattle.vring_turns.specs.TxTurn.{tx_next}
use Rattle.vhost_tx.specs.Worker.{state_of}
use Rattle.vhost_tx.proofs.worker.TxWorker.event.Goals as goal

pub returns-in-Begin-clause-event : goal.returns-in-Begin-clause-event
returns-in-Begin-clause-event g c =
    let s = state_of c.args.self.now c.args.vq.now.queue c.args.mem.now (g.H.HostIn.host c.args.host.now) in
    ap (λ stage. tx_next stage s) (ap (λ w. w.turn.stage) (sym c.self.view_is) ∙ c.in-Begin.is)
    ∙ c.notices.ensures.step (g.H.HostIn.host c.args.host.now)

pub returns-in-NoticesOn-clause-event : goal.returns-in-NoticesOn-clause-event
returns-in-NoticesOn-clause-event g c =
    let s = state_of c.args.self.now c.args.vq.now.queue c.args.mem.now (g.H.HostIn.host c.args.host.now) in
    ap (λ stage. tx_next stage s) (ap (λ w. w.turn.stage) (sym c.self.view_is) ∙ c.in-NoticesOn.is)
    ∙ c.notices-in-NoticesOn.ensures.step (g.H.HostIn.host c.args.host.now)

pub returns-in-NoticesOff-clause-event : goal.returns-in-NoticesOff-clause-event
returns-in-NoticesOff-clause-event g c =
    let s = state_of c.args.self.now c.args.vq.now.queue c.args.mem.now (g.H.HostIn.host c.args.host.now) in
    ap (λ stage. tx_next stage s) (ap (λ w. w.turn.stage) (sym c.self.view_is) ∙ c.in-NoticesOff.is)
    ∙ c.notices_off.ensures.step (g.H.HostIn.host c.args.host.now)
