use Rattle.std.proofs.Common.{sym, ap, ◌∙◌, subst, Some}
use Rattle.std.specs.Prelude.{is_some}
use Rattle.tap_lines.specs.Placed.{MayChange}
use Rattle.tap_sound.proofs.Kit.{some_same}
use Rattle.tap_world.specs.LineSteps.Change.{Owned}
use Rattle.tap_world.specs.declared.event.EventKind.TheVariants as event
use Rattle.core_calls.proofs.Facts.{back_vhost}
use Rattle.core_calls.proofs.Owners.{own_did, owns_one}
use Rattle.core_calls.proofs.owning.own.Goals as goal

pub side_mut-requires : goal.side_mut-requires
side_mut-requires c =
    ap (λ o. is_some o) (owns_one c.args.vhost c.args.file c.args.version c.requires.may.1).is_there

pub own-requires : goal.own-requires
own-requires c =
    let one = owns_one c.args.vhost c.args.file c.args.version c.requires.may.1 in
    subst (λ p. MayChange (Owned (Some c.args.vhost)) p.file)
    (some_same one.old c.side_mut.result.now (sym one.is_there ∙ c.side_mut.ensures.value)) one.may

pub give_back-requires-clause-there : goal.give_back-requires-clause-there
give_back-requires-clause-there c =
    let m = c.requires.may.1 in
    ap (λ o. is_some o) (back_vhost m c.args.vhost 0 (Some c.args.file) m.suits.0).1

pub returns : goal.returns
returns c =
    let m = c.requires.may.1 in
    let v = back_vhost m c.args.vhost 0 (Some c.args.file) m.suits.0 in
    record {
      went = (
        event.Owner,
        rw (c.give_back.ensures, c.seen.ensures) (own_did c.args.vhost c.args.file c.args.version m v.0
            c.side_mut.result.now c.own.new.self v.1 c.side_mut.ensures.value c.own.ensures.file
            c.own.ensures.frames),
      );
    }
