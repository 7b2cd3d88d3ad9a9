-- Every event keeps rings in order, and served.
use Rattle.std.proofs.Common.{◌≡◌, Some, sym, ap, subst}
use Rattle.tap_world.specs.declared.event.Event.{Event}
use Rattle.tap_world.specs.declared.event.Heard.{Heard}
use Rattle.tap_world.specs.Setup.{Setup}
use Rattle.tap_world.specs.World.{World}
use Rattle.tap_world.specs.Effect.{Effect}
use Rattle.tap_world.specs.Step.{step}
use Rattle.tap_world.specs.StepTurns as rx_turns
use Rattle.tap_world.specs.StepTransmits as tx_turns
use Rattle.tap_world.specs.Each.{EachActor, EachVhost}
use Rattle.tap_world.specs.SoundActors.{CanBe}
use Rattle.tap_world.specs.SoundRings.{HaveRings, TurnsAreHeld, serves}
use Rattle.tap_sound.proofs.DriveRings.{back_kept, call_kept}
use Rattle.tap_sound.proofs.Held.{shape_here}
use Rattle.tap_sound.proofs.Kit.{where_some}
use Rattle.tap_sound.proofs.RingsKept.{Left, a_guest, left}
use Rattle.tap_sound.proofs.ServedOn.{rings_on, served_between, served_ended}
use Rattle.tap_sound.proofs.Shapes.{Shape}
use Rattle.tap_sound.proofs.Shapes.Shape.{BackDrives, Calling, RxTurning, TxTurning}
use Rattle.tap_sound.proofs.StepFacts.{RxDoes, TxDoes, rx_does, tx_does}
use Rattle.tap_sound.proofs.Taken.{IsStep, step_is, when_settled}
use Rattle.tap_sound.proofs.TurnRings.{RingLaws, rx_kept, tx_kept}
use Rattle.tap_world.specs.declared.event.Found.TheVariants as found

as_left : (s : Setup) (w : World) (x : Event) (u : World) (t : IsStep s w x u) → Left s w x u t → HaveRings w → HaveRings t.between
as_left s w x u t l h = record {
  rings = rings_on w t.between l.rings l.guests h.rings;
  served = served_between s w x u t l.course l.rings h.served;
}

between : RingLaws → (s : Setup) (w : World) (x : Event) (u : World) (t : IsStep s w x u) → EachActor w (λ actor a. CanBe a) → EachVhost w (TurnsAreHeld w)
    → Shape s w x.actor t.actor.seen t.actor.doing t.now.command t.effect → HaveRings w → HaveRings t.between
between laws s w x u t can turns (RxTurning vhost file q v g hd made files f over cis a b way step lv told_ eq) h =
    let does = where_some (RxDoes (rx_turns.rx_state q v g.memory)) _ made (rx_does hd (rx_turns.rx_state q v g.memory)) step in
    rx_kept s w x u t laws can turns h vhost file q v g hd made f over cis a b way step told_ (ap (λ (r : Effect). r.onward) eq) (ap (λ (r : Effect). r.vhosts) (sym eq))
    (a_guest s w x u t v.guest made.0.memory _ g (ap (λ (r : Effect). r.guests) (sym eq)) b does.2)
between laws s w x u t can turns (TxTurning vhost file q told v g made st over cis a b way step end_ eq) h =
    let does = where_some (TxDoes (tx_turns.tx_state q v g.memory)) _ made (tx_does (tx_turns.tx_state q v g.memory)) step in
    tx_kept s w x u t laws can turns h vhost file q told (tx_turns.chains_after made.1 made.0.turn.held told) v g made
    (found.Step st) over cis a b way step end_ (ap (λ (r : Effect). r.onward) eq)
    (ap (λ (r : Effect). r.vhosts) (sym eq)) (a_guest s w x u t v.guest made.0.memory _ g (ap (λ (r : Effect). r.guests) (sym eq)) b does.2)
between laws s w x u t can turns (BackDrives refusal vhost ring file v g is cis a b free eq) h =
    back_kept s w x u t laws.dev refusal vhost ring file v g can turns a b free (ap serves is) eq h
between laws s w x u t can turns (Calling vhost v g y is of a b call may eq) h = call_kept s w x u t laws.dev vhost v g y can turns is a b call may eq h
between laws s w x u t can turns shape h = as_left s w x u t (left laws.turn s w x u t turns h.served shape (λ no_. no_)) h

pub rings_are_kept : RingLaws → (s : Setup) (w : World) (x : Event) (u : World × Heard) → step s w x ≡ Some u
    → EachActor w (λ actor a. CanBe a) → EachVhost w (TurnsAreHeld w) → HaveRings w → HaveRings u.0
rings_are_kept laws s w x u e can turns h =
    let t = step_is s w x u e in
    let b = between laws s w x u.0 t can turns (shape_here s w x u.0 t can) h in
    subst HaveRings t.is (when_settled HaveRings t.between b (λ f end. record { rings = b.rings; served = served_ended t.between f end b.served }))
