-- What is true of whole runs, phase by phase.
use Rattle.std.proofs.Common.{◌≡◌, ℕ, zero, suc, ◌+◌, ◌<◌, List, [], ◌∷◌, Bool, Some, None, refl, sym, ap, ◌∙◌, subst, arith}
use Rattle.std.specs.Prelude.{if◌then◌else◌, drop, slice_get}
use Rattle.scen_text.specs.declared.scenario.Phase.{Phase}
use Rattle.scen_text.specs.declared.scenario.Scenario.{Scenario}
use Rattle.tap_world.specs.declared.event.Event.{Event}
use Rattle.tap_world.specs.Commands.{AreScriptsSoFar, events_of}
use Rattle.tap_world.specs.Setup.{Numbered, Setup, script_in, setup_of}
use Rattle.tap_world.specs.World.{Actor, World, newest}
use Rattle.tap_world.specs.World.Doing.{Begun}
use Rattle.tap_world.specs.Effect.{Onward, actor_after}
use Rattle.tap_world.specs.Effect.Onward.{Ends, Goes, Stays}
use Rattle.tap_world.specs.Step.{step}
use Rattle.tap_world.specs.Runs.{AreChosen, IsChosen, IsOrder, IsRun, actors_from, begins, has_ended, moved_on, opening, run, run_phases}
use Rattle.tap_sound.specs.Laws.{AreScripted}
use Rattle.tap_sound.proofs.Kit.{some_same, some_then, then_some}
use Rattle.tap_sound.proofs.Scripts.{all_done, all_so_far, effect_actors, ended_each, first_of_list, run_finishes, run_proceeds}
use Rattle.tap_sound.proofs.Taken.{IsStep, each_with_nth, if_some, step_is, when_settled}

-- ---- the actors of a phase

begun_actor : (p : Phase) (seen from n i : ℕ) → i < n
    → slice_get (actors_from p seen from n) i ≡ Some (record { seen = seen; script = script_in p (from + i); doing = Begun })
begun_actor p seen from zero i lt = absurd (omega (arith, lt))
begun_actor p seen from (suc n) zero lt =
    let e : from + 0 ≡ from = omega arith in
    ap (λ (k : ℕ). Some (record { seen = seen; script = script_in p k; doing = Begun })) (sym e)
begun_actor p seen from (suc n) (suc i) lt =
    let e : (from + 1) + i ≡ from + suc i = omega arith in
    begun_actor p seen (from + 1) n i (omega (arith, lt)) ∙ ap (λ (k : ℕ). Some (record { seen = seen; script = script_in p k; doing = Begun })) e

phase_actor : (number : ℕ) (p : Phase) (w : World) (i : ℕ) → i < p.actors
    → slice_get (begins number p w).actors i ≡ Some (record { seen = newest w; script = script_in p i; doing = Begun })
phase_actor number p w i lt =
    let e : 0 + i ≡ i = omega arith in
    begun_actor p (newest w) 0 p.actors i lt ∙ ap (λ (k : ℕ). Some (record { seen = newest w; script = script_in p k; doing = Begun })) e

-- ---- scripts

phases_scripted : (s : Setup) (number : ℕ) (ps : List Phase) (es : List (List Event)) (w v : World) → run_phases s number ps es w ≡ Some v → AreScripted ps es
phases_scripted s number [] [] w v e = tt
phases_scripted s number [] (d ∷ ds) w v e = absurd (cc (e))
phases_scripted s number (p ∷ ps) [] w v e = absurd (cc (e))
phases_scripted s number (p ∷ ps) (es ∷ more) w v e =
    let t = then_some (run s es (begins number p w)) _ v e in
    let i = if_some (has_ended t.0) _ v t.2 in (
      (λ actor lt. all_done (script_in p actor) (events_of actor es)
          (run_finishes s es (begins number p w) t.0 t.1 i.0 actor _ (phase_actor number p w actor lt))),
      phases_scripted s (number + 1) ps more t.0 v i.1,
    )

pub events_are_scripts : (s : Scenario) (events : List (List Event)) (w : World) → IsRun s events w → AreScripted s.phases events
events_are_scripts s events w e = phases_scripted (setup_of s) 0 s.phases events (opening (setup_of s)) w e

pub events_begin_scripts : (s : Setup) (number : ℕ) (p : Phase) (es : List Event) (w v : World) → run s es (begins number p w) ≡ Some v
    → (actor : ℕ) → actor < p.actors → AreScriptsSoFar (script_in p actor) (events_of actor es)
events_begin_scripts s number p es w v e actor lt =
    all_so_far (script_in p actor) (events_of actor es) (run_proceeds s es (begins number p w) v e actor _ (phase_actor number p w actor lt))

-- ---- the run of a seed is a run

chosen_runs : (s : Setup) (x : ℕ) (es : List Event) (w : World) (y : ℕ) (v : World) → IsChosen s x es w y v → run s es w ≡ Some v
chosen_runs s x [] w y v h = ap Some (sym h.2)
chosen_runs s x (e ∷ es) w y v h = some_then (step s w e) _ h.1 v h.2 (chosen_runs s (moved_on x) es h.1.0 y v h.3)

phases_run : (s : Setup) (x number : ℕ) (ps : List Phase) (es : List (List Event)) (w v : World) → AreChosen s x number ps es w v → run_phases s number ps es w ≡ Some v
phases_run s x number [] [] w v h = ap Some (sym h)
phases_run s x number [] (d ∷ ds) w v h = absurd h
phases_run s x number (p ∷ ps) [] w v h = absurd h
phases_run s x number (p ∷ ps) (es ∷ more) w v h =
    some_then (run s es (begins number p w)) _ h.1 v (chosen_runs s x es (begins number p w) h.0 h.1 h.2)
    (ap (λ (b : Bool). if b then run_phases s (number + 1) ps more h.1 else None) h.3 ∙ phases_run s h.0 (number + 1) ps more h.1 v h.4)

pub order_is_run : (s : Scenario) (seed : ℕ) (events : List (List Event)) (w : World) → IsOrder s seed events w → IsRun s events w
order_is_run s seed events w h = phases_run (setup_of s) seed 0 s.phases events (opening (setup_of s)) w h

-- ---- nothing is left

-- an actor with nothing left has nothing under way
abbrev pub IsAtRest : Actor → Type 0
IsAtRest a = a.script ≡ [] → a.doing ≡ Begun

abbrev pub AtRest : World → Type 0
AtRest w = (i : ℕ) (a : Actor) → slice_get w.actors i ≡ Some a → IsAtRest a

rests_after : (o : Onward) (a : Actor) (c : Numbered) (cs : List Numbered) → a.script ≡ c ∷ cs → IsAtRest (actor_after o a)
rests_after (Goes seen d f) a c cs is none = absurd (cc (is, none))
rests_after (Ends seen x) a c cs is none = refl
rests_after (Stays f) a c cs is none = absurd (cc (is, none))

step_rests : (s : Setup) (w : World) (x : Event) (u : World) → IsStep s w x u → AtRest w → AtRest u
step_rests s w x u t rest =
    let first = first_of_list t.actor.script t.now t.current_is in
    let between : AtRest t.between = subst (λ (q : List Actor). (i : ℕ) (a : Actor) → slice_get q i ≡ Some a → IsAtRest a)
    (sym (effect_actors t.effect x.actor t.actor x.command w t.between t.made))
    (each_with_nth (λ i a. IsAtRest a) x.actor (actor_after t.effect.onward t.actor) w.actors rest
    (rests_after t.effect.onward t.actor t.now first.0 first.1)) in
    subst AtRest t.is (when_settled AtRest t.between between
    (λ e end. each_with_nth (λ i a. IsAtRest a) e.actor (record e.state { script = drop 1 e.state.script; doing = Begun }) t.between.actors between
    (λ none. refl)))

pub run_rests : (s : Setup) (es : List Event) (w v : World) → run s es w ≡ Some v → AtRest w → AtRest v
run_rests s [] w v e rest = subst AtRest (some_same w v e) rest
run_rests s (x ∷ es) w v e rest =
    let t = then_some (step s w x) _ v e in
    run_rests s es t.0.0 v t.2 (step_rests s w x t.0.0 (step_is s w x t.0 t.1) rest)

pub begun_rest : (p : Phase) (seen from n i : ℕ) (a : Actor) → slice_get (actors_from p seen from n) i ≡ Some a → IsAtRest a
begun_rest p seen from zero i a e = absurd (cc (e))
begun_rest p seen from (suc n) zero a e = λ none. ap (λ (q : Actor). q.doing) (sym (some_same _ a e))
begun_rest p seen from (suc n) (suc i) a e = begun_rest p seen (from + 1) n i a e

abbrev IsDone : World → Type 0
IsDone w = (i : ℕ) (a : Actor) → slice_get w.actors i ≡ Some a → (a.script ≡ []) × (a.doing ≡ Begun)

phases_done : (s : Setup) (number : ℕ) (ps : List Phase) (es : List (List Event)) (w v : World) → run_phases s number ps es w ≡ Some v → IsDone w → IsDone v
phases_done s number [] [] w v e done = subst IsDone (some_same w v e) done
phases_done s number [] (d ∷ ds) w v e done = absurd (cc (e))
phases_done s number (p ∷ ps) [] w v e done = absurd (cc (e))
phases_done s number (p ∷ ps) (es ∷ more) w v e done =
    let t = then_some (run s es (begins number p w)) _ v e in
    let c = if_some (has_ended t.0) _ v t.2 in
    let rest = run_rests s es (begins number p w) t.0 t.1 (begun_rest p (newest w) 0 p.actors) in
    phases_done s (number + 1) ps more t.0 v c.1
    (λ i a at. let none = ended_each t.0.actors i a c.0 at in (none, rest i a at none))

pub all_is_done : (s : Scenario) (events : List (List Event)) (w : World) → IsRun s events w
    → (i : ℕ) (a : Actor) → slice_get w.actors i ≡ Some a → (a.script ≡ []) × (a.doing ≡ Begun)
all_is_done s events w e = phases_done (setup_of s) 0 s.phases events (opening (setup_of s)) w e (λ i a h. absurd (cc (h)))
