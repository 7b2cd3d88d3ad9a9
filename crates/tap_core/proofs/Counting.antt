-- How many actors a world has.
use Rattle.std.proofs.Common.{◌≡◌, ℕ, zero, suc, ◌+◌, ◌≤◌, ◌<◌, ◌^◌, List, [], ◌∷◌, length, map, Some, ⊎_elim, refl, sym, ap, ◌∙◌, subst, arith}
use Rattle.scen_laid.specs.Laid.{IsLaid}
use Rattle.scen_laid.specs.Phases.{IsPhase}
use Rattle.scen_text.specs.declared.scenario.Phase.{Phase}
use Rattle.scen_text.specs.declared.scenario.Scenario.{Scenario}
use Rattle.tap_world.specs.declared.event.Event.{Event}
use Rattle.tap_world.specs.declared.event.Heard.{Heard}
use Rattle.tap_world.specs.ByNumber.{with_nth}
use Rattle.tap_world.specs.Effect.{actor_after}
use Rattle.tap_world.specs.Runs.{actors_from, begins, opening, run}
use Rattle.tap_world.specs.Setup.{Setup, setup_of}
use Rattle.tap_world.specs.Step.{step}
use Rattle.tap_world.specs.World.{World, newest}
use Rattle.tap_world.specs.declared.told.Said.{Said}
use Rattle.tap_sound.proofs.Kit.{some_same, then_some}
use Rattle.tap_sound.proofs.Scripts.{effect_actors}
use Rattle.tap_sound.proofs.Taken.{step_is, when_settled}
use Rattle.core_actors.specs.Acting.{Acting, actor_of}
use Rattle.core_shared.specs.declared.shared.Shared.{Shared}
use Rattle.tap_core.specs.Running.{IsInLast, IsRunning, Reaches, lines_in, world_of}
use Rattle.tap_core.proofs.Kit.{at_place}

length_with_nth : {A : Type 0} (n : ℕ) (new : A) (xs : List A) → length (with_nth n new xs) ≡ length xs
length_with_nth n new [] = refl
length_with_nth zero new (x ∷ xs) = refl
length_with_nth (suc n) new (x ∷ xs) = ap suc (length_with_nth n new xs)

-- as many as the phase has, at first and after each event
at_first : (p : Phase) (seen from more : ℕ) → length (actors_from p seen from more) ≡ more
at_first p seen from zero = refl
at_first p seen from (suc more) = ap suc (at_first p seen (from + 1) more)

after_step : (s : Setup) (w : World) (x : Event) (u : World × Heard) → step s w x ≡ Some u → length u.0.actors ≡ length w.actors
after_step s w x u e =
    let t = step_is s w x u e in
    let between : length t.between.actors ≡ length w.actors =
    ap length (effect_actors t.effect x.actor t.actor x.command w t.between t.made)
    ∙ length_with_nth x.actor (actor_after t.effect.onward t.actor) w.actors in
    subst (λ (q : World). length q.actors ≡ length w.actors) t.is
    (when_settled (λ (q : World). length q.actors ≡ length w.actors) t.between between
    (λ f end. length_with_nth f.actor _ t.between.actors ∙ between))

after_run : (s : Setup) (es : List Event) (w v : World) → run s es w ≡ Some v → length v.actors ≡ length w.actors
after_run s [] w v e = ap (λ (q : World). length q.actors) (sym (some_same w v e))
after_run s (x ∷ es) w v e =
    let t = then_some (step s w x) _ v e in
    after_run s es t.0.0 v t.2 ∙ after_step s w x t.0 t.1

-- at most 16
are_few : (s : Scenario) (begun : ℕ) (w : World) → IsLaid s → Reaches s begun w → length w.actors ≤ 16
are_few s begun w laid r =
    ⊎_elim
    (λ h. none h.1)
    (λ l. some l) r
  where
    none : w ≡ opening (setup_of s) → length w.actors ≤ 16
    none e = subst (λ (n : ℕ). n ≤ 16) (ap (λ (v : World). length v.actors) (sym e)) (omega arith)

    some : IsInLast s begun w → length w.actors ≤ 16
    some l =
        let p = l.in_phase.phase in
        subst (λ (n : ℕ). n ≤ 16)
        (sym (after_run (setup_of s) l.in_phase.so_far (begins l.ended p l.before) w l.in_phase.is
        ∙ at_first p (newest l.before) 0 p.actors))
        (at_place (IsPhase (setup_of s)) s.phases l.ended p laid.phases l.in_phase.is_next).few

length_map : {A B : Type 0} (f : A → B) (xs : List A) → length (map f xs) ≡ length xs
length_map f [] = refl
length_map f (x ∷ xs) = ap suc (length_map f xs)

-- so their number is one of 16 bits
pub has_16_bits : (s : Scenario) (begun : ℕ) (x : Shared) (actors : List Acting) (said : List Said) → IsRunning s begun x actors said
    → length actors < 2 ^ 16
has_16_bits s begun x actors said h =
    let few = are_few s begun (world_of s x actors said) h.laid h.reached in
    let few : length actors ≤ 16 = subst (λ (n : ℕ). n ≤ 16) (length_map (actor_of (lines_in s x.phase) x.vhosts) actors) few in
    omega arith
