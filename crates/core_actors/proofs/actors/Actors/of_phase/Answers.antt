use Rattle.std.proofs.Common.{◌∙◌, arith}
use Rattle.core_actors.proofs.Places.{actor_there, all_given, given_none, line_given}
use Rattle.core_actors.proofs.actors.Actors.of_phase.Goals as goal

pub loop-place-init : goal.loop-place-init
loop-place-init c = c.in_ok-actors.ensures ∙ given_none c.args.seen 0 c.args.phase.now.actors

pub add-requires : goal.add-requires
add-requires c =
    actor_there c.args.seen c.args.phase.now.actors c.loop-place.place _ c.line-item.result c.loop-place.actors
    c.loop-place.invariant (rw c.as_slice-line-items.ensures c.requires.actors) c.loop-place-test.true c.line-item.is

pub loop-place-preserved : goal.loop-place-preserved
loop-place-preserved c =
    line_given c.args.seen c.args.phase.now.actors c.loop-place.place _ c.line-item.result c.loop-place.actors c.add.new.self
    c.loop-place.invariant
    (actor_there c.args.seen c.args.phase.now.actors c.loop-place.place _ c.line-item.result c.loop-place.actors
    c.loop-place.invariant (rw c.as_slice-line-items.ensures c.requires.actors) c.loop-place-test.true c.line-item.is)
    c.in_default.ensures c.loop-place-test.true c.line-item.is

pub returns : goal.returns
returns c =
    all_given c.args.phase.now c.args.seen c.loop-place.place c.loop-place.actors
    (rw (← c.as_slice-line-items.ensures) c.loop-place.invariant) (rw (← c.as_slice-line-items.ensures) c.loop-place-test.false)
