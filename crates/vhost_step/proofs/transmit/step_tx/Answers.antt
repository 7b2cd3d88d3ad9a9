use Rattle.std.proofs.Common.{◌≡◌, ◌∙◌, Option, Some, subst}
use Rattle.vhost_tx.specs.Worker.{state_of}
use Rattle.vhost_step.specs.Queues.{one_host}
use Rattle.vring_turns.specs.TxTurn.{tx_step}
use Rattle.tap_frame.specs.Frame.{FrameValue}
use Rattle.vhost_step.proofs.Giving.{given_by}
use Rattle.vhost_step.proofs.Transmitting.{stepped, stands_after, idle_after, over_after}
use Rattle.vhost_step.proofs.transmit.step_tx.Goals as goal

pub returns-in-Ok-clause-stands : goal.returns-in-Ok-clause-stands
returns-in-Ok-clause-stands c =
    let before = state_of c.args.worker.now c.args.vq.now.queue c.args.mem.now (one_host c.new-host.result.given) in
    let after =
    state_of c.step-step.new.self c.step-step.new.vq.queue c.step-step.new.mem
    (one_host c.step-step.new.host.given) in
    stands_after c.transmit_standing.ensures.stands before after _ c.requires.stands
    (stepped _ _ before after c.in-Ok.ensures.event c.step-step.ensures.event)

pub returns-in-Ok-clause-idle : goal.returns-in-Ok-clause-idle
returns-in-Ok-clause-idle c =
    let before = state_of c.args.worker.now c.args.vq.now.queue c.args.mem.now (one_host c.new-host.result.given) in
    let after =
    state_of c.step-step.new.self c.step-step.new.vq.queue c.step-step.new.mem
    (one_host c.step-step.new.host.given) in
    idle_after c.step-step.new.self.turn c.step-step.new.vq.queue c.in-Ok.field-0.over
    (stands_after c.transmit_standing.ensures.stands before after _ c.requires.stands
    (stepped _ _ before after c.in-Ok.ensures.event c.step-step.ensures.event))
    (c.in-Ok.ensures.over ∙ over_after _ _ c.step-step.new.self.turn c.in-Ok.ensures.event c.step-step.ensures.told)

pub returns-in-Ok-clause-given : goal.returns-in-Ok-clause-given
returns-in-Ok-clause-given c =
    let before = state_of c.args.worker.now c.args.vq.now.queue c.args.mem.now (one_host c.new-host.result.given) in
    let after =
    state_of c.step-step.new.self c.step-step.new.vq.queue c.step-step.new.mem
    (one_host c.step-step.new.host.given) in
    let step = stepped _ _ before after c.in-Ok.ensures.event c.step-step.ensures.event in
    let P : Option FrameValue → Type 0 = λ g.
    tx_step (state_of c.args.worker.now c.args.vq.now.queue c.args.mem.now (one_host g))
    ≡ Some (after, c.in-Ok.field-0.act) in
    c.given-given.ensures ∙ given_by c.args.worker.now.turn c.step-step.new.self.turn c.args.vq.now.queue
    c.step-step.new.vq.queue c.args.mem.now c.step-step.new.mem c.step-step.new.host.given c.in-Ok.field-0.act
    (subst P c.new-host.ensures step)
