-- This project's own: what holds of each actor after an event, and of those that begin a phase.
use Rattle.std.proofs.Common.{◌≡◌, ◌≢◌, ◌⊎◌, ℕ, zero, suc, ◌+◌, List, Some, inl, inr, ⊎_elim, sym, ap, ◌∙◌, subst, arith}
use Rattle.std.specs.Prelude.{drop, slice_get}
use Rattle.scen_text.specs.declared.scenario.Phase.{Phase}
use Rattle.tap_world.specs.declared.event.Event.{Event}
use Rattle.tap_world.specs.ByNumber.{with_nth}
use Rattle.tap_world.specs.Setup.{Setup, script_in}
use Rattle.tap_world.specs.World.{Actor, World}
use Rattle.tap_world.specs.World.Doing.{Begun, Purges}
use Rattle.tap_world.specs.Effect.{actor_after}
use Rattle.tap_world.specs.Each.{EachActor}
use Rattle.tap_world.specs.Runs.{actors_from}
use Rattle.tap_sound.proofs.Kit.{some_same}
use Rattle.tap_sound.proofs.Scripts.{effect_actors}
use Rattle.tap_sound.proofs.Taken.{IsStep, each_with_nth, when_settled, with_nth_get}
use Rattle.tap_sound.proofs.Turned.{with_nth_inv}
use Rattle.tap_sound.proofs.Views.{acted}

-- an actor whose command has ended
abbrev pub ended_actor : Actor → Actor
ended_actor a = record a { script = drop 1 a.script; doing = Begun }

module _ (s : Setup) (w : World) (x : Event) (u : World) (t : IsStep s w x u) where
  -- what holds of the others, of the one that acted, and where a command ends, holds of each afterwards
  pub each_after : (P : ℕ → Actor → Type 0) → ((i : ℕ) (a : Actor) → x.actor ≢ i → slice_get w.actors i ≡ Some a
      → P i a)
      → P x.actor (actor_after t.effect.onward t.actor) → ((i : ℕ) (a : Actor) → P i a → P i (ended_actor a))
      → EachActor u P
  each_after P others mine ending = subst (λ (q : World). EachActor q P) t.is
      (when_settled (λ (q : World). EachActor q P) t.between between
      (λ f end. each_with_nth P f.actor (ended_actor f.state) t.between.actors between
      (ending f.actor f.state (between f.actor f.state end.found))))
    where
      actors : t.between.actors ≡ with_nth x.actor (actor_after t.effect.onward t.actor) w.actors
      actors = effect_actors t.effect x.actor t.actor x.command w t.between t.made

      between : EachActor t.between P
      between i a at_ = ⊎_elim
          (λ same. subst (P i) same.1 (subst (λ (k : ℕ). P k (actor_after t.effect.onward t.actor)) same.0 mine))
          (λ other. others i a other.0 other.1)
          (with_nth_inv x.actor (actor_after t.effect.onward t.actor) w.actors i a
          (ap (λ (q : List Actor). slice_get q i) (sym actors) ∙ at_))

  -- the actor that acted is so afterwards, but where its purge has ended
  pub acted_after : (slice_get u.actors x.actor ≡ Some (actor_after t.effect.onward t.actor))
      ⊎ ((file : ℕ) × (version : ℕ) × ((actor_after t.effect.onward t.actor).doing ≡ Purges file version))
  acted_after = subst P t.is (when_settled P t.between (inl here) (λ f end. ⊎_elim
      (λ same.
      let mine : f.state ≡ actor_after t.effect.onward t.actor =
      some_same f.state (actor_after t.effect.onward t.actor) (sym end.found ∙ ap (slice_get t.between.actors) same.0
      ∙ here) in
      inr (end.file, f.version, ap (λ (q : Actor). q.doing) (sym mine) ∙ end.doing))
      (λ other. inl other.1)
      (with_nth_get f.actor (ended_actor f.state) t.between.actors x.actor (actor_after t.effect.onward t.actor) here)))
    where
      P : World → Type 0
      P q = (slice_get q.actors x.actor ≡ Some (actor_after t.effect.onward t.actor))
          ⊎ ((file : ℕ) × (version : ℕ) × ((actor_after t.effect.onward t.actor).doing ≡ Purges file version))

      here : slice_get t.between.actors x.actor ≡ Some (actor_after t.effect.onward t.actor)
      here = acted s w x u t

-- ---- actors that begin a phase

pub new_actor : (p : Phase) (seen from more i : ℕ) (a : Actor) → slice_get (actors_from p seen from more) i ≡ Some a
    → record { seen = seen; script = script_in p (from + i); doing = Begun } ≡ a
new_actor p seen from zero i a e = absurd (cc (e))
new_actor p seen from (suc more) zero a e =
    ap (λ (k : ℕ). record { seen = seen; script = script_in p k; doing = Begun }) (omega arith) ∙ some_same _ a e
new_actor p seen from (suc more) (suc i) a e =
    ap (λ (k : ℕ). record { seen = seen; script = script_in p k; doing = Begun }) (omega arith)
    ∙ new_actor p seen (from + 1) more i a e
