-- The effect of an event, and what it leaves of a world beside operations, files, actors and the writer.
use Rattle.std.proofs.Common.{◌≡◌, ℕ, ◌++◌, Bool, true, Some, None, sym, ap, ◌∙◌, subst}
use Rattle.std.specs.Prelude.{if◌then◌else◌, ◌==◌, ◌&&◌, slice_get}
use Rattle.tap_ground.specs.Options.{only_if}
use Rattle.tap_world.specs.declared.event.Event.{Event}
use Rattle.tap_world.specs.Setup.{Setup}
use Rattle.tap_world.specs.World.{Actor, World, current}
use Rattle.tap_world.specs.Effect.{Effect, files_after, guests_after, said_after, vhosts_after, with_effect}
use Rattle.tap_world.specs.Scripts.{is_kind, next_kind}
use Rattle.tap_world.specs.Stands.{if_new}
use Rattle.tap_world.specs.Step.{effect, row, row_of}
use Rattle.tap_sound.proofs.Kit.{some_same, some_then, then_some}
use Rattle.tap_sound.proofs.Taken.{IsStep}
use Rattle.tap_sound.proofs.Turned.{itself}

-- guests and vhosts are those that it makes, names are added, and perhaps an answer; and the phase stays
pub record IsRest (r : Effect) (actor n : ℕ) (w v : World) : Type 0 where
  pub guests : guests_after actor n r.guests w.guests ≡ Some v.guests
  pub vhosts : v.vhosts ≡ vhosts_after r.vhosts w.vhosts
  pub hosted : v.hosted ≡ w.hosted ++ r.hosts
  pub dropped : v.dropped ≡ w.dropped ++ r.drops
  pub said : v.said ≡ w.said ++ said_after r.onward w.phase actor n
  pub phase : v.phase ≡ w.phase

pub effect_rest : (r : Effect) (actor : ℕ) (a : Actor) (n : ℕ) (w v : World) → with_effect r actor a n w ≡ Some v
    → IsRest r actor n w v
effect_rest r actor a n w v e =
    let f = then_some (files_after r.files w.files) _ v e in
    let g = then_some (guests_after actor n r.guests w.guests) _ v f.2 in
    let same = some_same _ v g.2 in
    record {
      guests = g.1 ∙ ap (λ (x : World). Some x.guests) same;
      vhosts = ap (λ (x : World). x.vhosts) (sym same);
      hosted = ap (λ (x : World). x.hosted) (sym same);
      dropped = ap (λ (x : World). x.dropped) (sym same);
      said = ap (λ (x : World). x.said) (sym same);
      phase = ap (λ (x : World). x.phase) (sym same);
    }

-- ---- the effect

row_back : (s : Setup) (w : World) (e : Event) (u : World) (t : IsStep s w e u) → row_of s w e ≡ Some t.effect
row_back s w e u t =
    let test : (t.now.number == e.command && is_kind e.kind (next_kind w t.actor.doing t.now.command)) ≡ true =
    ap (λ (b : Bool). b && is_kind e.kind (next_kind w t.actor.doing t.now.command))
    (subst (λ n. (t.now.number == n) ≡ true) t.number (itself t.now.number)) ∙ t.next in
    some_then (slice_get w.actors e.actor) _ t.actor t.effect t.found
    (some_then (current t.actor.script) _ t.now t.effect t.current_is
    (ap (λ (b : Bool). if b then row s w e.kind e.actor t.actor t.now.number t.now.command else None) test ∙ t.is_row))

pub effect_is : (s : Setup) (w : World) (e : Event) (u : World) (t : IsStep s w e u) → effect s w e ≡ Some t.effect
effect_is s w e u t =
    some_then (row_of s w e) (λ r. if_new w r) t.effect t.effect (row_back s w e u t)
    (ap (λ (b : Bool). only_if b t.effect) t.new)
