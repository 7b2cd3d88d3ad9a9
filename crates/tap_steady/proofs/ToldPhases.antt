-- A world's actors are as many as its phase has, and the phases of a set-up are the scenario's.
use Rattle.std.proofs.Common.{◌≡◌, ℕ, zero, suc, ◌+◌, List, [], ◌∷◌, length, take, Some, refl, sym, ap, ◌∙◌, subst}
use Rattle.std.specs.Prelude.{slice_get}
use Rattle.scen_text.specs.declared.scenario.Phase.{Phase}
use Rattle.tap_world.specs.declared.event.Event.{Event}
use Rattle.tap_world.specs.declared.event.Heard.{Heard}
use Rattle.tap_world.specs.ByNumber.{with_nth}
use Rattle.tap_world.specs.Setup.{Setup}
use Rattle.tap_world.specs.World.{World, newest}
use Rattle.tap_world.specs.Effect.{actor_after}
use Rattle.tap_world.specs.Runs.{actors_from, begins, has_ended, run, run_phases}
use Rattle.tap_world.specs.Step.{step}
use Rattle.tap_sound.proofs.Kit.{some_same, then_some}
use Rattle.tap_sound.proofs.Scripts.{effect_actors}
use Rattle.tap_sound.proofs.Taken.{if_some, step_is, when_settled}

-- ---- how many actors there are

pub length_with_nth : {A : Type 0} (n : ℕ) (new : A) (xs : List A) → length (with_nth n new xs) ≡ length xs
length_with_nth n new [] = refl
length_with_nth zero new (x ∷ xs) = refl
length_with_nth (suc n) new (x ∷ xs) = ap suc (length_with_nth n new xs)

new_are : (p : Phase) (seen from more : ℕ) → length (actors_from p seen from more) ≡ more
new_are p seen from zero = refl
new_are p seen from (suc more) = ap suc (new_are p seen (from + 1) more)

step_length : (s : Setup) (w : World) (x : Event) (u : World × Heard) → step s w x ≡ Some u → length u.0.actors ≡ length w.actors
step_length s w x u e =
    let t = step_is s w x u e in
    let between : length t.between.actors ≡ length w.actors =
    ap length (effect_actors t.effect x.actor t.actor x.command w t.between t.made)
    ∙ length_with_nth x.actor (actor_after t.effect.onward t.actor) w.actors in
    subst (λ (q : World). length q.actors ≡ length w.actors) t.is
    (when_settled (λ (q : World). length q.actors ≡ length w.actors) t.between between
    (λ f end. length_with_nth f.actor _ t.between.actors ∙ between))

run_length : (s : Setup) (es : List Event) (w v : World) → run s es w ≡ Some v → length v.actors ≡ length w.actors
run_length s [] w v e = ap (λ (q : World). length q.actors) (sym (some_same w v e))
run_length s (x ∷ es) w v e =
    let t = then_some (step s w x) _ v e in
    run_length s es t.0.0 v t.2 ∙ step_length s w x t.0 t.1

no_more : (s : Setup) (n : ℕ) (es : List (List Event)) (w v : World) → run_phases s n [] es w ≡ Some v → w ≡ v
no_more s n [] w v e = some_same w v e
no_more s n (d ∷ es) w v e = absurd (cc (e))

-- after so many phases a world has the actors of the last of them
pub phases_length : (s : Setup) (k n : ℕ) (ps : List Phase) (es : List (List Event)) (w v : World) → run_phases s n (take (suc k) ps) es w ≡ Some v
    → (p : Phase) → slice_get ps k ≡ Some p → length v.actors ≡ p.actors
phases_length s k n [] es w v e p is = absurd (cc (is))
phases_length s k n (q ∷ ps) [] w v e p is = absurd (cc (e))
phases_length s zero n (q ∷ ps) (d ∷ es) w v e p is =
    let t = then_some (run s d (begins n q w)) _ v e in
    let c = if_some (has_ended t.0) _ v t.2 in
    ap (λ (x : World). length x.actors) (sym (no_more s (n + 1) es t.0 v c.1))
    ∙ run_length s d (begins n q w) t.0 t.1
    ∙ new_are q (newest w) 0 q.actors
    ∙ ap (λ (x : Phase). x.actors) (some_same q p is)
phases_length s (suc k) n (q ∷ ps) (d ∷ es) w v e p is =
    let t = then_some (run s d (begins n q w)) _ v e in
    let c = if_some (has_ended t.0) _ v t.2 in
    phases_length s k (n + 1) ps es t.0 v c.1 p is
