-- No event lowers the version that an actor has seen.
use Rattle.std.proofs.Common.{◌≡◌, ◌≤◌, List, Some, sym, ap, ◌∙◌, subst, arith, ⊎_elim}
use Rattle.std.specs.Prelude.{drop, slice_get}
use Rattle.tap_world.specs.declared.event.Event.{Event}
use Rattle.tap_world.specs.declared.event.Heard.{Heard}
use Rattle.tap_world.specs.Each.{EachActor}
use Rattle.tap_world.specs.Setup.{Setup}
use Rattle.tap_world.specs.World.{Actor, World}
use Rattle.tap_world.specs.World.Doing.{Begun}
use Rattle.tap_world.specs.Effect.{Onward, actor_after}
use Rattle.tap_world.specs.Effect.Onward.{Ends, Goes, Stays}
use Rattle.tap_world.specs.Sound.{HasSeen}
use Rattle.tap_world.specs.Step.{row, step}
use Rattle.tap_sound.proofs.Kit.{some_same, where_some}
use Rattle.tap_sound.proofs.Scripts.{effect_actors}
use Rattle.tap_sound.proofs.Taken.{IsStep, step_is, when_settled, with_nth_get}
use Rattle.tap_grows.specs.Runs.{SeesOn}
use Rattle.tap_grows.proofs.SeenLooks.{IsOn, Sees}
use Rattle.tap_grows.proofs.SeenRows.{row_sees}

-- the actor that acts
seen_on : (o : Onward) (a : Actor) → IsOn a.seen o → a.seen ≤ (actor_after o a).seen
seen_on (Goes seen d f) a h = h
seen_on (Ends seen x) a h = h
seen_on (Stays f) a h = omega arith

acting : (s : Setup) (w : World) (e : Event) (u : World) (t : IsStep s w e u) → EachActor w (HasSeen w)
    → t.actor.seen ≤ (actor_after t.effect.onward t.actor).seen
acting s w e u t seen = seen_on t.effect.onward t.actor
    (where_some (Sees t.actor.seen) (row s w e.kind e.actor t.actor t.now.number t.now.command) t.effect
    (row_sees t.actor.seen w s e.kind e.actor t.actor t.now.number t.now.command (omega arith)
    (seen e.actor t.actor t.found)) t.is_row)

between_sees : (s : Setup) (w : World) (e : Event) (u : World) (t : IsStep s w e u) → EachActor w (HasSeen w)
    → SeesOn w t.between
between_sees s w e u t seen i a found =
    let after : Actor = actor_after t.effect.onward t.actor in
    let actors = effect_actors t.effect e.actor t.actor e.command w t.between t.made in
    ⊎_elim
    (λ same.
    let mine : t.actor ≡ a = some_same t.actor a (sym t.found ∙ ap (slice_get w.actors) same.0 ∙ found) in (
      after,
      ap (λ (l : List Actor). slice_get l i) actors ∙ same.1,
      subst (λ (q : Actor). q.seen ≤ after.seen) mine (acting s w e u t seen),
    ))
    (λ other. (a, ap (λ (l : List Actor). slice_get l i) actors ∙ other.1, omega arith))
    (with_nth_get e.actor after w.actors i a found)

pub seen_rises : (s : Setup) (w : World) (e : Event) (u : World × Heard) → step s w e ≡ Some u → EachActor w (HasSeen w)
    → SeesOn w u.0
seen_rises s w e u is seen =
    let t = step_is s w e u is in
    let b = between_sees s w e u.0 t seen in
    subst (SeesOn w) t.is (when_settled (SeesOn w) t.between b (λ f end. λ i a found.
    let c = b i a found in
    ⊎_elim
    (λ same.
    let it : f.state ≡ c.0 = some_same f.state c.0 (sym end.found ∙ ap (slice_get t.between.actors) same.0 ∙ c.1) in (
      record f.state { script = drop 1 f.state.script; doing = Begun },
      same.1,
      subst (λ (q : Actor). a.seen ≤ q.seen) (sym it) c.2,
    ))
    (λ other. (c.0, other.1, c.2))
    (with_nth_get f.actor (record f.state { script = drop 1 f.state.script; doing = Begun }) t.between.actors i c.0 c.1)))
