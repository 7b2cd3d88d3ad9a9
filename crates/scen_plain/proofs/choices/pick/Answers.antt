use Rattle.std.proofs.Common.{◌≡◌, ◌/◌, ◌%◌, ◌^◌, List, Some, subst, arith}
use Rattle.std.specs.Prelude.{slice_get}
use Rattle.std.proofs.Math.Nat.{mod-lt}
use Rattle.std.proofs.lemmas.Option.{slice_get_read}
use Rattle.tap_world.specs.declared.event.Event.{Event}
use Rattle.tap_world.specs.Setup.{setup_of}
use Rattle.scen_plain.proofs.Allowed.{choice_allowed}
use Rattle.scen_plain.proofs.choices.pick.Goals as goal

pub returns-clause-allowed : goal.returns-clause-allowed
returns-clause-allowed c =
    let core = c.args.core.now in
    let events = c.choose.new.events in
    let place = c.args.x / 2 ^ 33 % c.len-many.result in
    choice_allowed (setup_of core.scenario) core.world
    (c.runs_go_on.ensures core.scenario core.world c.is_running.ensures.laid c.is_running.ensures.reached)
    place c.index.result.now
    (subst (λ (es : List Event). slice_get es place ≡ Some c.index.result.now) c.in_ok-choose.ensures
    (slice_get_read events.items c.len-many.result place c.index.result.now
    (omega (arith, c.len-many.ensures, events.ok.0))
    (mod-lt (c.args.x / 2 ^ 33) (omega (arith, c.if-many-eq0.false))) c.index.ensures))
