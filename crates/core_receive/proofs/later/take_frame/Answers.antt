use Rattle.std.proofs.Common.{Some, sym, ap, ◌∙◌}
use Rattle.tap_world.specs.declared.event.EventKind.TheVariants as event
use Rattle.tap_world.specs.declared.event.Found.TheVariants as found
use Rattle.core_shared.specs.declared.doing.Doing.TheVariants as doing
use Rattle.core_shared.specs.declared.onward.Onward.TheVariants as on
use Rattle.core_receive.proofs.Handed.{is_there_to_take, may_take, took}
use Rattle.core_receive.proofs.Known.{known}
use Rattle.core_receive.proofs.later.take_frame.Goals as goal

pub side_mut-requires : goal.side_mut-requires
side_mut-requires c =
    is_there_to_take c.args.asked.now c.args.vhost c.args.file c.args.shared.now c.requires.may
    (known c.args.asked.now c.args.vhost c.args.file event.Hand c.args.shared.now c.requires.may)

pub take-frame-requires : goal.take-frame-requires
take-frame-requires c =
    may_take c.args.asked.now c.args.vhost c.args.file c.args.shared.now c.requires.may
    (known c.args.asked.now c.args.vhost c.args.file event.Hand c.args.shared.now c.requires.may)
    c.side_mut.result.now c.side_mut.ensures.value

pub returns : goal.returns
returns c =
    let k = known c.args.asked.now c.args.vhost c.args.file event.Hand c.args.shared.now c.requires.may in
    record {
      did = took c.args.asked.now c.args.vhost c.args.file c.args.shared.now c.requires.may k c.hand_to_turn.new.shared
          c.side_mut.result.now c.take-frame.new.self c.take-frame.result _ c.side_mut.ensures.value c.take-frame.ensures.file
          c.take-frame.ensures.frame (c.in_ok-hand_to_turn.ensures.moved k.worker.turn k.turn)
          (ap (λ s. Some (on.Goes s (doing.Receives c.args.vhost c.args.file) (found.Moved c.take-frame.result.name)))
          (sym c.seen.ensures)
          ∙ ap (λ n. Some (on.Goes c.seen.result (doing.Receives c.args.vhost c.args.file) (found.Moved n)))
          (sym c.name-name.ensures));
    }
