use Rattle.std.proofs.Common.{true, false, sym, ◌∙◌}
use Rattle.tap_world.specs.declared.event.EventKind.TheVariants as event
use Rattle.core_shared.proofs.Knowing.{may_do}
use Rattle.core_receive.proofs.Known.{asked_is, can_step, file_is_there, hand_kind, known}
use Rattle.core_receive.proofs.later.receive.Goals as goal

pub step-requires-clause-steps : goal.step-requires-clause-steps
step-requires-clause-steps c =
    let a = c.args.asked.now in
    let x = c.args.shared.now in
    let k = known a c.args.vhost c.args.file c.requires.may.0 x c.requires.may.1 in
    can_step a c.args.vhost c.args.file c.requires.may.0 x c.requires.may.1 k false
    (asked_is a c.args.vhost c.args.file c.requires.may.0 x c.requires.may.1 k c.side.result.now c.side.ensures
    ∙ sym c.asks.ensures ∙ c.if-not-asks.true)

pub side-requires-2 : goal.side-requires-2
side-requires-2 c =
    file_is_there c.args.asked.now c.args.vhost c.args.file c.requires.may.0 c.args.shared.now c.requires.may.1
    (known c.args.asked.now c.args.vhost c.args.file c.requires.may.0 c.args.shared.now c.requires.may.1)

pub take_frame-requires-clause-may : goal.take_frame-requires-clause-may
take_frame-requires-clause-may c =
    let a = c.args.asked.now in
    let x = c.args.shared.now in
    let k = known a c.args.vhost c.args.file c.requires.may.0 x c.requires.may.1 in
    let asks = asked_is a c.args.vhost c.args.file c.requires.may.0 x c.requires.may.1 k c.side.result.now c.side.ensures
    ∙ sym c.asks.ensures ∙ c.if-not-asks.false in
    may_do c.requires.may event.Hand
    (hand_kind a c.args.vhost c.args.file c.requires.may.0 x c.requires.may.1 k asks c.side-2.result.now c.side-2.ensures true
    (sym c.has_frame.ensures ∙ c.if-has_frame.true))

pub take_frame-requires-clause-asks : goal.take_frame-requires-clause-asks
take_frame-requires-clause-asks c =
    let a = c.args.asked.now in
    let x = c.args.shared.now in
    let k = known a c.args.vhost c.args.file c.requires.may.0 x c.requires.may.1 in
    can_step a c.args.vhost c.args.file c.requires.may.0 x c.requires.may.1 k true
    (asked_is a c.args.vhost c.args.file c.requires.may.0 x c.requires.may.1 k c.side.result.now c.side.ensures
    ∙ sym c.asks.ensures ∙ c.if-not-asks.false)

pub find_none-requires-clause-may : goal.find_none-requires-clause-may
find_none-requires-clause-may c =
    let a = c.args.asked.now in
    let x = c.args.shared.now in
    let k = known a c.args.vhost c.args.file c.requires.may.0 x c.requires.may.1 in
    let asks = asked_is a c.args.vhost c.args.file c.requires.may.0 x c.requires.may.1 k c.side.result.now c.side.ensures
    ∙ sym c.asks.ensures ∙ c.if-not-asks.false in
    may_do c.requires.may event.NotReady
    (hand_kind a c.args.vhost c.args.file c.requires.may.0 x c.requires.may.1 k asks c.side-2.result.now c.side-2.ensures false
    (sym c.has_frame.ensures ∙ c.if-has_frame.false))

pub find_none-requires-clause-asks : goal.find_none-requires-clause-asks
find_none-requires-clause-asks c =
    let a = c.args.asked.now in
    let x = c.args.shared.now in
    let k = known a c.args.vhost c.args.file c.requires.may.0 x c.requires.may.1 in
    can_step a c.args.vhost c.args.file c.requires.may.0 x c.requires.may.1 k true
    (asked_is a c.args.vhost c.args.file c.requires.may.0 x c.requires.may.1 k c.side.result.now c.side.ensures
    ∙ sym c.asks.ensures ∙ c.if-not-asks.false)
