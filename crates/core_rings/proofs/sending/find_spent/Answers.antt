use Rattle.std.proofs.Common.{refl}
use Rattle.tap_world.specs.declared.event.EventKind.TheVariants as kind
use Rattle.core_shared.specs.declared.doing.Doing.TheVariants as doing
use Rattle.tap_sound.proofs.Kit.{only_some}
use Rattle.tap_world.specs.StepRing.{spent_now}
use Rattle.core_shared.proofs.Taking.{about_there}
use Rattle.core_rings.proofs.Done.{drop_result}
use Rattle.core_rings.proofs.Events.{drop_event}
use Rattle.core_rings.proofs.sending.find_spent.Goals as goal

pub side-requires : goal.side-requires
side-requires c = about_there c.requires.may c.args.file refl

pub returns : goal.returns
returns c =
    let m = c.requires.may in
    let e = drop_event c.args.asked.now _ kind.Spent c.args.shared.now c.args.file (spent_now c.args.epoch) m.event.effect c.side.result.now
    (record { is_next = λ actors said. m.event.is_next; is_row = λ actors said rest. m.event.is_row }) m.event.is_row c.side.ensures in
    record {
      did = drop_result c.args.asked.now (doing.Routed c.args.file c.args.epoch c.args.frame) kind.Spent c.args.shared.now c.args.file e.0 _ _ _
          c.drop_frame.result e.2 m.held m.suits.name (rw (c.claimed.ensures) (only_some _ _ _ e.1).1) c.drop_frame.ensures.dropped c.drop_frame.ensures.ends;
    }
