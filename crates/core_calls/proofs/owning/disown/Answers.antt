use Rattle.std.proofs.Common.{sym, ap, ◌∙◌, subst, None}
use Rattle.std.specs.Prelude.{is_some}
use Rattle.tap_lines.specs.Placed.{MayChange}
use Rattle.tap_sound.proofs.Kit.{some_same}
use Rattle.tap_world.specs.LineSteps.Change.{Owned}
use Rattle.tap_world.specs.declared.event.EventKind.TheVariants as event
use Rattle.core_calls.proofs.Owners.{disown_did, disowns_one}
use Rattle.core_calls.proofs.owning.disown.Goals as goal

pub side_mut-requires : goal.side_mut-requires
side_mut-requires c = ap (λ o. is_some o) (disowns_one c.args.vhost c.args.file c.requires.may.1).is_there

pub own-requires : goal.own-requires
own-requires c =
    let one = disowns_one c.args.vhost c.args.file c.requires.may.1 in
    subst (λ p. MayChange (Owned None) p.file)
    (some_same one.old c.side_mut.result.now (sym one.is_there ∙ c.side_mut.ensures.value)) one.may

pub returns : goal.returns
returns c = record {
  went = (
    event.Owner,
    rw c.seen.ensures (disown_did c.args.vhost c.args.file c.requires.may.1 c.side_mut.result.now
        c.own.new.self c.side_mut.ensures.value c.own.ensures.file c.own.ensures.frames),
  );
}
