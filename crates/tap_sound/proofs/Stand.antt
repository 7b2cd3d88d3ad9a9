-- Every event leads its command to where it can come.
use Rattle.std.proofs.Common.{◌≡◌, ℕ, List, [], ◌∷◌, true, Option, Some, refl, sym, ap, ◌∙◌, subst}
use Rattle.std.specs.Prelude.{drop, slice_get}
use Rattle.std.specs.Option.{option_map_or}
use Rattle.tap_world.specs.declared.event.Event.{Event}
use Rattle.tap_world.specs.declared.event.Heard.{Heard}
use Rattle.tap_world.specs.Setup.{Numbered, Setup}
use Rattle.tap_world.specs.World.{Actor, World}
use Rattle.tap_world.specs.World.Doing.{Begun}
use Rattle.tap_world.specs.Effect.{Onward, actor_after}
use Rattle.tap_world.specs.Effect.Onward.{Ends, Goes, Stays}
use Rattle.tap_world.specs.Step.{step}
use Rattle.tap_world.specs.Each.{EachActor}
use Rattle.tap_world.specs.SoundActors.{CanBe, can_be, is_begun}
use Rattle.tap_sound.proofs.Kit.{where_some}
use Rattle.tap_sound.proofs.Scripts.{effect_actors}
use Rattle.tap_sound.proofs.Standing.{Leads, To, row_leads}
use Rattle.tap_sound.proofs.Taken.{each_with_nth, step_is, when_settled}

pub begun_stands : (seen : ℕ) (cs : List Numbered) → CanBe (record { seen = seen; script = cs; doing = Begun })
begun_stands seen [] = refl
begun_stands seen (c ∷ cs) = refl

pub stands_at : (a : Actor) (c : Numbered) → slice_get a.script 0 ≡ Some c → CanBe a → can_be a.doing c.command ≡ true
stands_at a c at h = sym (ap (λ (o : Option Numbered). option_map_or (λ (x : Numbered). can_be a.doing x.command) o (is_begun a.doing)) at) ∙ h

stands_after : (o : Onward) (a : Actor) (c : Numbered) → slice_get a.script 0 ≡ Some c → Leads c.command o → CanBe a → CanBe (actor_after o a)
stands_after (Goes seen d f) a c at h old = ap (λ (o : Option Numbered). option_map_or (λ (x : Numbered). can_be d x.command) o (is_begun d)) at ∙ h
stands_after (Ends seen x) a c at h old = begun_stands seen (drop 1 a.script)
stands_after (Stays f) a c at h old = old

abbrev Stand : List Actor → Type 0
Stand actors = (i : ℕ) (a : Actor) → slice_get actors i ≡ Some a → CanBe a

pub stands_are_kept : (s : Setup) (w : World) (x : Event) (u : World × Heard) → step s w x ≡ Some u
    → EachActor w (λ actor a. CanBe a) → EachActor u.0 (λ actor a. CanBe a)
stands_are_kept s w x u e stand =
    let t = step_is s w x u e in
    let can = stand x.actor t.actor t.found in
    let leads = where_some (To t.now.command) _ t.effect
    (row_leads s w x.kind x.actor t.actor t.now.number t.now.command (stands_at t.actor t.now t.current_is can)) t.is_row in
    let between : Stand t.between.actors =
    subst Stand (sym (effect_actors t.effect x.actor t.actor x.command w t.between t.made))
    (each_with_nth (λ i a. CanBe a) x.actor (actor_after t.effect.onward t.actor) w.actors stand
    (stands_after t.effect.onward t.actor t.now t.current_is leads can)) in
    subst (λ (q : World). Stand q.actors) t.is
    (when_settled (λ (q : World). Stand q.actors) t.between between
    (λ f end. each_with_nth (λ i a. CanBe a) f.actor (record f.state { script = drop 1 f.state.script; doing = Begun }) t.between.actors between
    (begun_stands f.state.seen (drop 1 f.state.script))))
