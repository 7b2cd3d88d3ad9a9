use Rattle.std.proofs.Common.{ap, ◌∙◌, sym, subst, arith, ◌+◌, List, ◌++◌, Vec, Global}
use Rattle.tap_world.specs.declared.event.Event.{Event}
use Rattle.tap_world.specs.Runs.{choices}
use Rattle.tap_world.specs.Setup.{setup_of}
use Rattle.scen_plain.proofs.Listing.{Lists, lists_event, lists_none, lists_all}
use Rattle.scen_plain.proofs.choices.choose.Goals as goal
use Rattle.scen_plain.proofs.choices.choose.Goals.{in-Does+in_ok-push, in_default}

pub loop-actor-init : goal.loop-actor-init
loop-actor-init c =
    ap (λ (es : List Event). es ++ choices (setup_of c.args.core.now.scenario) c.args.core.now.world) c.clear.ensures.items

pub loop-actor-preserved : goal.loop-actor-preserved
loop-actor-preserved c = elim c.match-next.branch [
  | in-Does+in_ok-push w ↦ lists_event (setup_of c.args.core.now.scenario) c.args.core.now.world c.loop-actor.actor
      c.loop-actor.events.items c.match-next.events.items c.next.result w.in-Does.event
      (omega (arith, c.loop-actor-test.true, c.actors-actor-end.ensures)) c.loop-actor.invariant c.next.ensures w.in-Does.is
      (ap (λ (v : Vec Event Global). v.items) w.events-is ∙ w.in_ok-push.ensures.items)
  | in_default w ↦ subst (λ (v : Vec Event Global).
      Lists (setup_of c.args.core.now.scenario) c.args.core.now.world (c.loop-actor.actor + 1) v.items) (sym w.events-is)
      (lists_none (setup_of c.args.core.now.scenario) c.args.core.now.world c.loop-actor.actor c.loop-actor.events.items
      c.next.result (omega (arith, c.loop-actor-test.true, c.actors-actor-end.ensures)) c.loop-actor.invariant c.next.ensures
      w.in_default.not-Does)
]

pub returns : goal.returns
returns c = lists_all (setup_of c.args.core.now.scenario) c.args.core.now.world c.loop-actor.actor c.loop-actor.events.items
    (omega (arith, c.loop-actor-test.false, c.actors-actor-end.ensures)) c.loop-actor.invariant
