use Rattle.std.proofs.Common.{◌∙◌, ap, subst}
use Rattle.tap_ledger.specs.Queue.{QueueState}
use Rattle.vhost_rx.specs.Worker.{Stepped, state_of}
use Rattle.vhost_step.specs.Queues.{one_queue, holding}
use Rattle.vhost_step.proofs.Receiving.{stepped, without_hand, stands_after, idle_after, over_after, went_after}
use Rattle.vhost_step.proofs.receive.step_rx.Goals as goal

pub returns-clause-step : goal.returns-clause-step
returns-clause-step c = without_hand _ _ _ _ _ c.requires.stage
    (stepped _ _ _ _ _ _ c.in-Ok.ensures.event c.step-step.ensures.event)

pub returns-clause-went : goal.returns-clause-went
returns-clause-went c =
    let before = state_of c.args.worker.now c.args.vq.now.queue c.args.mem.now in
    let after = state_of c.step-step.new.self c.step-step.new.vq.queue c.step-step.new.mem in
    let new = one_queue c.step-step.new.q in
    let same = ap one_queue (c.holding-one.ensures ∙ ap holding c.in_hand.ensures) in
    let P : QueueState → Type 0 = λ old. Stepped before after old new c.in-Ok.field-0.act in
    c.went-went.ensures ∙ went_after before after new c.in-Ok.field-0.act c.requires.stage
    c.requires.fits.steady.chains.held
    (subst P same (stepped _ _ _ _ _ _ c.in-Ok.ensures.event c.step-step.ensures.event))

pub returns-clause-stands : goal.returns-clause-stands
returns-clause-stands c = stands_after c.receive_standing.ensures.stands
    (state_of c.args.worker.now c.args.vq.now.queue c.args.mem.now)
    (state_of c.step-step.new.self c.step-step.new.vq.queue c.step-step.new.mem) _ _ _ c.requires.stands
    (stepped _ _ _ _ _ _ c.in-Ok.ensures.event c.step-step.ensures.event)

pub returns-clause-idle : goal.returns-clause-idle
returns-clause-idle c =
    let before = state_of c.args.worker.now c.args.vq.now.queue c.args.mem.now in
    let after = state_of c.step-step.new.self c.step-step.new.vq.queue c.step-step.new.mem in
    idle_after c.step-step.new.self.turn c.step-step.new.vq.queue c.in-Ok.field-0.over
    (stands_after c.receive_standing.ensures.stands before after _ _ _ c.requires.stands
    (stepped _ _ _ _ _ _ c.in-Ok.ensures.event c.step-step.ensures.event))
    (c.in-Ok.ensures.over ∙ over_after _ _ c.step-step.new.self.turn c.in-Ok.ensures.event c.step-step.ensures.told)
