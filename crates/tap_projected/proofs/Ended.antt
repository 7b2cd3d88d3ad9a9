-- At the end of a run each command of each phase is answered.
use Rattle.std.proofs.Common.{◌≡◌, ◌⊎◌, ℕ, zero, suc, ◌+◌, ◌≤◌, ◌<◌, List, [], ◌∷◌, ◌++◌, length, Option, Some, None, refl, sym, ap, ◌∙◌, subst, inl, inr, ⊎_elim, arith}
use Rattle.std.specs.Prelude.{slice_get}
use Rattle.std.proofs.lemmas.Bool.{cases_lt}
use Rattle.std.proofs.lemmas.List.{append-nil}
use Rattle.std.proofs.lemmas.Option.{slice_get_within}
use Rattle.scen_text.specs.declared.scenario.Phase.{Phase}
use Rattle.scen_text.specs.declared.scenario.Scenario.{Scenario}
use Rattle.scen_laid.specs.Laid.{IsLaid}
use Rattle.scen_laid.specs.Phases.{IsPhase}
use Rattle.tap_world.specs.declared.event.Event.{Event}
use Rattle.tap_world.specs.declared.event.Heard.{Heard}
use Rattle.tap_world.specs.declared.told.Said.{Said}
use Rattle.tap_world.specs.ByNumber.{with_nth}
use Rattle.tap_world.specs.Effect.{Effect, actor_after, files_after, guests_after, with_effect}
use Rattle.tap_world.specs.Runs.{IsRun, actors_from, begins, has_ended, opening, run, run_phases}
use Rattle.tap_world.specs.Setup.{Setup, script_in, setup_of}
use Rattle.tap_world.specs.Steady.{IsTold, answered, numbers}
use Rattle.tap_world.specs.Step.{step}
use Rattle.tap_world.specs.World.{Actor, World, newest}
use Rattle.tap_world.specs.World.Doing.{Begun}
use Rattle.tap_sound.proofs.Kit.{some_same, then_some}
use Rattle.tap_sound.proofs.Scripts.{effect_actors}
use Rattle.tap_sound.proofs.Taken.{if_some, step_is, when_settled}
use Rattle.tap_sights.specs.Sight.{In}
use Rattle.tap_projected.proofs.Commands.{no_script, phases_are}
use Rattle.tap_projected.proofs.Lists.{all_in, in_at}

-- ---- an event leaves the phase and how many actors there are

abbrev IsOfPhase : ℕ → ℕ → World → Type 0
IsOfPhase phase actors w = (w.phase ≡ phase) × (length w.actors ≡ actors)

length_with_nth : {A : Type 0} (n : ℕ) (new : A) (xs : List A) → length (with_nth n new xs) ≡ length xs
length_with_nth n new [] = refl
length_with_nth zero new (x ∷ xs) = refl
length_with_nth (suc n) new (x ∷ xs) = ap suc (length_with_nth n new xs)

effect_phase : (r : Effect) (actor : ℕ) (a : Actor) (n : ℕ) (w v : World) → with_effect r actor a n w ≡ Some v → v.phase ≡ w.phase
effect_phase r actor a n w v e =
    let f = then_some (files_after r.files w.files) _ v e in
    let g = then_some (guests_after actor n r.guests w.guests) _ v f.2 in
    ap (λ (q : World). q.phase) (sym (some_same _ v g.2))

step_stays : (s : Setup) (w : World) (x : Event) (u : World × Heard) → step s w x ≡ Some u → (phase actors : ℕ) → IsOfPhase phase actors w
    → IsOfPhase phase actors u.0
step_stays s w x u e phase actors h =
    let t = step_is s w x u e in
    let between : IsOfPhase phase actors t.between = (
      effect_phase t.effect x.actor t.actor x.command w t.between t.made ∙ h.0,
      ap length (effect_actors t.effect x.actor t.actor x.command w t.between t.made)
          ∙ length_with_nth x.actor (actor_after t.effect.onward t.actor) w.actors ∙ h.1,
    ) in
    subst (IsOfPhase phase actors) t.is
    (when_settled (IsOfPhase phase actors) t.between between
    (λ f end. (between.0, length_with_nth f.actor _ t.between.actors ∙ between.1)))

run_stays : (s : Setup) (es : List Event) (w v : World) → run s es w ≡ Some v → (phase actors : ℕ) → IsOfPhase phase actors w → IsOfPhase phase actors v
run_stays s [] w v e phase actors h = subst (IsOfPhase phase actors) (some_same w v e) h
run_stays s (x ∷ es) w v e phase actors h =
    let t = then_some (step s w x) _ v e in
    run_stays s es t.0.0 v t.2 phase actors (step_stays s w x t.0 t.1 phase actors h)

new_are : (p : Phase) (seen from more : ℕ) → length (actors_from p seen from more) ≡ more
new_are p seen from zero = refl
new_are p seen from (suc more) = ap suc (new_are p seen (from + 1) more)

-- the last of these phases is the world's
record IsLast (n : ℕ) (ps : List Phase) (v : World) : Type 0 where
  k : ℕ
  p : Phase
  is : slice_get ps k ≡ Some p
  all : length ps ≡ suc k
  phase : v.phase ≡ n + k
  actors : length v.actors ≡ p.actors

last_phase : (s : Setup) (n : ℕ) (ps : List Phase) (es : List (List Event)) (w v : World) → run_phases s n ps es w ≡ Some v
    → ((ps ≡ []) × (w ≡ v)) ⊎ IsLast n ps v
last_phase s n [] [] w v e = inl (refl, some_same w v e)
last_phase s n [] (d ∷ es) w v e = absurd (cc (e))
last_phase s n (p ∷ ps) [] w v e = absurd (cc (e))
last_phase s n (p ∷ ps) (d ∷ es) w v e =
    let t = then_some (run s d (begins n p w)) _ v e in
    let c = if_some (has_ended t.0) _ v t.2 in
    let here = run_stays s d (begins n p w) t.0 t.1 n p.actors (refl, new_are p (newest w) 0 p.actors) in
    ⊎_elim
    (λ h.
    let now : IsOfPhase n p.actors v = subst (IsOfPhase n p.actors) h.1 here in
    let phase = now.0 in
    inr (record {
      k = 0;
      p = p;
      is = refl;
      all = ap (λ (qs : List Phase). suc (length qs)) h.0;
      phase = omega (arith, phase);
      actors = now.1;
    }))
    (λ h.
    let phase = h.phase in
    inr (record {
      k = suc h.k;
      p = h.p;
      is = h.is;
      all = ap suc h.all;
      phase = omega (arith, phase);
      actors = h.actors;
    }))
    (last_phase s (n + 1) ps es t.0 v c.1)

-- ---- all is answered

-- each actor's commands are answered, in their order; and what was answered is of a phase
pub record AreAnswered (s : Scenario) (w : World) : Type 0 where
  pub all : (phase actor : ℕ) (p : Phase) → slice_get s.phases phase ≡ Some p → numbers (script_in p actor) ≡ answered w phase actor
  pub there : (x : Said) → In x w.said → (p : Phase) × (slice_get s.phases x.phase ≡ Some p)

there_is : {A : Type 0} (n : ℕ) (xs : List A) → n < length xs → (x : A) × (slice_get xs n ≡ Some x)
there_is n [] lt = absurd (omega (arith, lt))
there_is zero (x ∷ xs) lt = (x, refl)
there_is (suc n) (x ∷ xs) lt = there_is n xs (omega (arith, lt))

none_there : {A : Type 0} (xs : List A) (i : ℕ) → slice_get xs i ≡ None → length xs ≤ i
none_there [] i e = omega arith
none_there (x ∷ xs) zero e = absurd (cc (e))
none_there (x ∷ xs) (suc i) e = let h = none_there xs i e in omega (arith, h)

module _ (s : Scenario) (w : World) (laid : IsLaid s) (told : IsTold (setup_of s) w)
    (done : (actor : ℕ) (a : Actor) → slice_get w.actors actor ≡ Some a → (a.script ≡ []) × (a.doing ≡ Begun)) where
  -- the last phase
  last_answered : (actor : ℕ) (p : Phase) → slice_get s.phases w.phase ≡ Some p → length w.actors ≡ p.actors
      → numbers (script_in p actor) ≡ answered w w.phase actor
  last_answered actor p at many = go (slice_get w.actors actor) refl
    where
      go : (o : Option Actor) → slice_get w.actors actor ≡ o → numbers (script_in p actor) ≡ answered w w.phase actor
      go (Some a) found =
          let h = told.order actor a found in
          let same : h.0 ≡ p = some_same h.0 p (sym h.1 ∙ ap (λ (q : List Phase). slice_get q w.phase) (phases_are s) ∙ at) in
          ap (λ (q : Phase). numbers (script_in q actor)) (sym same)
          ∙ ap numbers (h.2.1 ∙ ap (λ q. h.2.0 ++ q) (done actor a found).0 ∙ append-nil h.2.0) ∙ h.2.2
      go None found =
          let few : length w.actors ≤ actor = none_there w.actors actor found in
          let phase = all_in (IsPhase (setup_of s)) s.phases p laid.phases (in_at s.phases w.phase p at) in
          ap numbers (no_script (setup_of s) p.actors actor p.lines phase.lines (subst (λ n. n ≤ actor) many few))
          ∙ sym (told.none actor few)

  of_last : IsLast 0 s.phases w → AreAnswered s w
  of_last h =
      let phase = h.phase in
      let all = h.all in
      let is_last : h.k ≡ w.phase = omega (arith, phase) in
      let at : slice_get s.phases w.phase ≡ Some h.p = subst (λ n. slice_get s.phases n ≡ Some h.p) is_last h.is in
      record {
        all = λ number actor p is. ⊎_elim
            (λ before. told.earlier number actor p before (ap (λ (q : List Phase). slice_get q number) (phases_are s) ∙ is))
            (λ from.
            let within = slice_get_within s.phases number p is in
            let same : w.phase ≡ number = omega (arith, within, from, all, phase) in
            let its : slice_get s.phases w.phase ≡ Some p = subst (λ n. slice_get s.phases n ≡ Some p) (sym same) is in
            let one : h.p ≡ p = some_same h.p p (sym at ∙ its) in
            subst (λ n. numbers (script_in p actor) ≡ answered w n actor) same
            (last_answered actor p its (h.actors ∙ ap (λ (q : Phase). q.actors) one)))
            (cases_lt number w.phase);
        there = λ x i.
            let latest = all_in (λ (y : Said). y.phase ≤ w.phase) w.said x told.latest i in
            there_is x.phase s.phases (omega (arith, latest, phase, all));
      }

  of_none : s.phases ≡ [] → opening (setup_of s) ≡ w → AreAnswered s w
  of_none none same = record {
    all = λ phase actor p is.
        let nowhere : slice_get s.phases phase ≡ None = ap (λ (q : List Phase). slice_get q phase) none in
        absurd (cc (nowhere, is));
    there = λ x i. absurd (subst (λ (q : World). In x q.said) (sym same) i);
  }

  pub are_answered : (events : List (List Event)) → IsRun s events w → AreAnswered s w
  are_answered events is =
      ⊎_elim (λ h. of_none h.0 h.1) (λ h. of_last h) (last_phase (setup_of s) 0 s.phases events (opening (setup_of s)) w is)
