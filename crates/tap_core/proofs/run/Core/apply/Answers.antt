use Rattle.std.proofs.Common.{subst}
use Rattle.tap_core.specs.Applying.{run_of}
use Rattle.tap_core.specs.Running.{Running}
use Rattle.tap_core.specs.Telling.{IsApplied}
use Rattle.tap_core.proofs.Applied.{allowed_in}
use Rattle.tap_core.proofs.run.Core.apply.Goals as goal

pub make_event-requires-clause-ready : goal.make_event-requires-clause-ready
make_event-requires-clause-ready c =
    let i = c.self.inside in
    c.events_are_applied.ensures.ready i.scenario.now i.begun i.shared i.actors i.said.items c.args.event.now c.self.invariant
    (allowed_in _ _ c.args.event.now c.self.view_is c.requires)

pub invariant_of-core : goal.invariant_of-core
invariant_of-core c =
    let i = c.self.inside in
    let made = c.make_event.new in
    (c.events_are_applied.ensures.applied i.scenario.now i.begun i.shared made.shared i.actors made.actors i.said.items
    made.said.items c.args.event.now c.in-Ok.found c.self.invariant (allowed_in _ _ c.args.event.now c.self.view_is c.requires)
    c.in-Ok.ensures).0

pub returns-in-Ok : goal.returns-in-Ok
returns-in-Ok c =
    let i = c.self.inside in
    let made = c.make_event.new in
    subst
    (λ (r : Running). IsApplied c.args.event.now r (run_of i.scenario.now i.begun made.shared made.actors made.said.items) c.in-Ok.found)
    c.self.view_is
    (c.events_are_applied.ensures.applied i.scenario.now i.begun i.shared made.shared i.actors made.actors i.said.items
    made.said.items c.args.event.now c.in-Ok.found c.self.invariant (allowed_in _ _ c.args.event.now c.self.view_is c.requires)
    c.in-Ok.ensures).1
