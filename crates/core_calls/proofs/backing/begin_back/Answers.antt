use Rattle.std.proofs.Common.{ap, subst, sym, ◌∙◌, length}
use Rattle.std.specs.Prelude.{is_some, IfSome}
use Rattle.tap_guests.specs.Calls.{IsUnserved}
use Rattle.tap_guests.specs.Side.{IsSide}
use Rattle.tap_sound.proofs.Kit.{some_same}
use Rattle.tap_steer.specs.Named.{IsFile}
use Rattle.tap_world.specs.declared.event.EventKind.TheVariants as event
use Rattle.core_calls.proofs.Looks.{file_known, holding_ops, is_looking, look_did, open_unserved}
use Rattle.core_calls.proofs.backing.begin_back.Goals as goal

pub side-requires : goal.side-requires
side-requires c = ap (λ o. is_some o) (is_looking c.requires.may.1 c.args.vhost c.args.ring c.args.file c.requires.command).is_vhost

pub back_refusal-refusal-requires : goal.back_refusal-refusal-requires
back_refusal-refusal-requires c =
    subst (λ t. IfSome c.args.file (λ f. IsFile t f)) (sym c.table.ensures)
    (file_known c.requires.may.1 c.args.vhost c.args.ring c.args.file c.requires.command)

pub hold-requires-clause-unserved : goal.hold-requires-clause-unserved
hold-requires-clause-unserved c none =
    let o = is_looking c.requires.may.1 c.args.vhost c.args.ring c.args.file c.requires.command in
    let side = subst IsSide (some_same c.side.result.now o.side (sym c.side.ensures ∙ o.is_vhost)) c.is_sound.ensures in
    subst (λ p. IfSome p (λ v. IsUnserved c.args.ring v)) (sym o.is_vhost)
    (open_unserved c.callers_meet_no_worker.ensures.free c.args.shared.now.writer c.args.ring o.side side o.free)

pub returns : goal.returns
returns c =
    let m = c.requires.may.1 in
    let o = is_looking m c.args.vhost c.args.ring c.args.file c.requires.command in
    let side = subst IsSide (some_same c.side.result.now o.side (sym c.side.ensures ∙ o.is_vhost)) c.is_sound.ensures in
    let none = open_unserved c.callers_meet_no_worker.ensures.free c.args.shared.now.writer c.args.ring o.side side o.free in
    let n = c.newest-seen.ensures ∙ ap (λ y. length y.ops.ops) c.hold.ensures
    ∙ holding_ops c.back_refusal-refusal.result c.actor.result c.args.vhost c.args.ring c.args.shared.now in
    record {
      went = (
        event.Look,
        rw (c.hold.ensures, c.actor.ensures, c.back_refusal-refusal.ensures, c.table.ensures)
            (look_did m c.args.vhost c.args.ring c.args.file o.side c.requires.command o.is_vhost o.free none
            c.newest-seen.result n),
      );
    }
