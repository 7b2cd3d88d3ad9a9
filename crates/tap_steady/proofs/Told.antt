-- Commands are answered one after another, each once.
use Rattle.std.proofs.Common.{◌≡◌, ◌≢◌, ℕ, zero, suc, ◌+◌, ◌<◌, ◌≤◌, List, [], ◌∷◌, ◌++◌, length, take, true, Option, Some, None, ⊎_elim, refl, sym, ap, ◌∙◌, subst, arith}
use Rattle.std.specs.Prelude.{drop, slice_get}
use Rattle.std.specs.List.{AllByRecursion}
use Rattle.std.proofs.lemmas.List.{append-nil, append_assoc, map-append}
use Rattle.scen_text.specs.declared.scenario.Phase.{Phase}
use Rattle.scen_text.specs.declared.scenario.Scenario.{Scenario}
use Rattle.tap_world.specs.declared.event.Event.{Event}
use Rattle.tap_world.specs.declared.event.Heard.{Heard}
use Rattle.tap_world.specs.ByNumber.{with_nth}
use Rattle.tap_world.specs.Setup.{Numbered, Setup, script_in, setup_of}
use Rattle.tap_world.specs.declared.told.Said.{Said}
use Rattle.tap_world.specs.World.{Actor, World, current, newest}
use Rattle.tap_world.specs.World.Doing.{Begun}
use Rattle.tap_world.specs.Effect.{Effect, Onward, actor_after, ended, files_after, guests_after, said_after, with_effect}
use Rattle.tap_world.specs.Effect.Onward.{Ends, Goes, Stays}
use Rattle.tap_world.specs.Runs.{actors_from, begins, has_ended, opening, run_phases}
use Rattle.tap_world.specs.Steady.{IsTold, answered, numbers}
use Rattle.tap_world.specs.Step.{step}
use Rattle.scen_laid.specs.Laid.{IsLaid}
use Rattle.scen_laid.specs.Phases.{IsPhase}
use Rattle.tap_sound.specs.Worlds.{IsAfter}
use Rattle.tap_sound.proofs.Kit.{some_same, then_some}
use Rattle.tap_sound.proofs.Scripts.{effect_actors, ended_each, first_of_list}
use Rattle.tap_sound.proofs.Taken.{step_is, when_settled}
use Rattle.tap_sound.proofs.Turned.{with_nth_inv}
use Rattle.tap_steady.specs.Part.{IsBetween, IsPart}
use Rattle.tap_steady.proofs.Kit.{all_at, all_more, all_on, at_below, phases_are}
use Rattle.tap_steady.proofs.ToldLists.{below_or_same, no_script, none_there, none_told, tells, told_before, told_mine, told_more, told_other}
use Rattle.tap_steady.proofs.ToldPhases.{length_with_nth, phases_length}

-- ---- after an event

-- an actor stands so in a phase, whose answers are these
abbrev IsSoFar : Setup → ℕ → List Said → ℕ → List Numbered → Type 0
IsSoFar s phase said actor script =
    (p : Phase) × (slice_get s.phases phase ≡ Some p)
    × ((done : List Numbered) × (script_in p actor ≡ done ++ script) × (numbers done ≡ tells phase actor said))

so_far : (s : Setup) (w : World) → IsTold s w → (actor : ℕ) (a : Actor) → slice_get w.actors actor ≡ Some a → IsSoFar s w.phase w.said actor a.script
so_far s w h actor a e = h.order actor a e

-- what one answer more makes of another actor
others_so_far : (s : Setup) (phase actor : ℕ) (said : List Said) (x : Said) (script : List Numbered) → x.line.actor ≢ actor → IsSoFar s phase said actor script
    → IsSoFar s phase (said ++ x ∷ []) actor script
others_so_far s phase actor said x script other h = (
  h.0,
  h.1,
  (
    h.2.0,
    h.2.1,
    h.2.2
        ∙ sym (told_more phase actor said x ∙ ap (λ q. tells phase actor said ++ q) (told_other phase actor x other) ∙ append-nil (tells phase actor said)),
  ),
)

-- and of its own
mine_so_far : (s : Setup) (phase actor : ℕ) (said : List Said) (x : Said) (c : Numbered) (rest : List Numbered) → x.phase ≡ phase → x.line.actor ≡ actor
    → x.line.command ≡ c.number → IsSoFar s phase said actor (c ∷ rest) → IsSoFar s phase (said ++ x ∷ []) actor rest
mine_so_far s phase actor said x c rest is_phase is_actor is h = (
  h.0,
  h.1,
  (
    h.2.0 ++ c ∷ [],
    h.2.1 ∙ sym (append_assoc h.2.0 (c ∷ []) rest),
    map-append (λ (y : Numbered). y.number) h.2.0 (c ∷ [])
        ∙ ap (λ q. q ++ c.number ∷ []) h.2.2
        ∙ ap (λ n. tells phase actor said ++ n ∷ []) (sym is)
        ∙ ap (λ q. tells phase actor said ++ q) (sym (told_mine phase actor x is_phase is_actor))
        ∙ sym (told_more phase actor said x),
  ),
)

-- an event that tells nothing, and leaves scripts as they were
told_still : (s : Setup) (w u : World) (i : ℕ) (a b : Actor) → slice_get w.actors i ≡ Some a → b.script ≡ a.script → u.phase ≡ w.phase
    → u.actors ≡ with_nth i b w.actors → u.said ≡ w.said → IsTold s w → IsTold s u
told_still s w u i a b found script phase actors said h = record {
  order = λ actor x e. subst (λ n. IsSoFar s n u.said actor x.script) (sym phase) (subst (λ q. IsSoFar s w.phase q actor x.script) (sym said)
      (⊎_elim
      (λ same. subst (λ k. IsSoFar s w.phase w.said k x.script) same.0
      (subst (λ q. IsSoFar s w.phase w.said i q) (sym script ∙ ap (λ (y : Actor). y.script) same.1) (so_far s w h i a found)))
      (λ other. so_far s w h actor x other.1)
      (with_nth_inv i b w.actors actor x (ap (λ (q : List Actor). slice_get q actor) (sym actors) ∙ e))));
  none = λ actor e.
      let few : length w.actors ≤ actor = subst (λ n. n ≤ actor) (ap length actors ∙ length_with_nth i b w.actors) e in
      ap (λ n. tells n actor u.said) phase ∙ ap (λ q. tells w.phase actor q) said ∙ h.none actor few;
  earlier = λ number actor p less is. h.earlier number actor p (subst (λ n. number < n) phase less) is ∙ ap (λ q. tells number actor q) (sym said);
  latest = subst (λ n. AllByRecursion (λ (x : Said). x.phase ≤ n) u.said) (sym phase)
      (subst (λ q. AllByRecursion (λ (x : Said). x.phase ≤ w.phase) q) (sym said) h.latest);
}

-- one that tells that an actor's command has ended
told_once : (s : Setup) (w u : World) (i : ℕ) (a b : Actor) (c : Numbered) (rest : List Numbered) (x : Said) → slice_get w.actors i ≡ Some a → a.script ≡ c ∷ rest
    → b.script ≡ rest → x.phase ≡ w.phase → x.line.actor ≡ i → x.line.command ≡ c.number → u.phase ≡ w.phase → u.actors ≡ with_nth i b w.actors
    → u.said ≡ w.said ++ x ∷ [] → IsTold s w → IsTold s u
told_once s w u i a b c rest x found script left is_phase is_actor is phase actors said h = record {
  order = λ actor y e. subst (λ n. IsSoFar s n u.said actor y.script) (sym phase) (subst (λ q. IsSoFar s w.phase q actor y.script) (sym said)
      (⊎_elim
      (λ same. subst (λ k. IsSoFar s w.phase (w.said ++ x ∷ []) k y.script) same.0
      (subst (λ q. IsSoFar s w.phase (w.said ++ x ∷ []) i q) (sym left ∙ ap (λ (z : Actor). z.script) same.1)
      (mine_so_far s w.phase i w.said x c rest is_phase is_actor is (subst (λ q. IsSoFar s w.phase w.said i q) script (so_far s w h i a found)))))
      (λ other. others_so_far s w.phase actor w.said x y.script (λ k. other.0 (sym is_actor ∙ k)) (so_far s w h actor y other.1))
      (with_nth_inv i b w.actors actor y (ap (λ (q : List Actor). slice_get q actor) (sym actors) ∙ e))));
  none = λ actor e.
      let few : length w.actors ≤ actor = subst (λ n. n ≤ actor) (ap length actors ∙ length_with_nth i b w.actors) e in
      let below = at_below w.actors i a found in
      let away : x.line.actor ≢ actor = λ k. omega (arith, few, below, k, is_actor) in
      ap (λ n. tells n actor u.said) phase ∙ ap (λ q. tells w.phase actor q) said ∙ told_more w.phase actor w.said x
      ∙ ap (λ q. tells w.phase actor w.said ++ q) (told_other w.phase actor x away)
      ∙ append-nil (tells w.phase actor w.said) ∙ h.none actor few;
  earlier = λ number actor p less at.
      let before : number < w.phase = subst (λ n. number < n) phase less in
      let away : x.phase ≢ number = λ k. omega (arith, before, k, is_phase) in
      h.earlier number actor p before at
      ∙ sym (ap (λ q. tells number actor q) said ∙ told_more number actor w.said x
      ∙ ap (λ q. tells number actor w.said ++ q) (told_before number actor x away) ∙ append-nil (tells number actor w.said));
  latest = subst (λ n. AllByRecursion (λ (y : Said). y.phase ≤ n) u.said) (sym phase)
      (subst (λ q. AllByRecursion (λ (y : Said). y.phase ≤ w.phase) q) (sym said)
      (all_more (λ (y : Said). y.phase ≤ w.phase) w.said x h.latest (omega (arith, is_phase))));
}

-- what an effect leaves of the phase, and what it tells
pub effect_said : (r : Effect) (actor : ℕ) (a : Actor) (n : ℕ) (w v : World) → with_effect r actor a n w ≡ Some v
    → (v.phase ≡ w.phase) × (v.said ≡ w.said ++ said_after r.onward w.phase actor n)
effect_said r actor a n w v e =
    let f = then_some (files_after r.files w.files) _ v e in
    let g = then_some (guests_after actor n r.guests w.guests) _ v f.2 in
    let same = sym (some_same _ v g.2) in
    (ap (λ (x : World). x.phase) same, ap (λ (x : World). x.said) same)

told_after : (s : Setup) (w u : World) (o : Onward) (i : ℕ) (a : Actor) (c : Numbered) → slice_get w.actors i ≡ Some a → current a.script ≡ Some c → u.phase ≡ w.phase
    → u.actors ≡ with_nth i (actor_after o a) w.actors → u.said ≡ w.said ++ said_after o w.phase i c.number → IsTold s w → IsTold s u
told_after s w u (Goes seen d f) i a c found now phase actors said h =
    told_still s w u i a (record a { seen = seen; doing = d }) found refl phase actors (said ∙ append-nil w.said) h
told_after s w u (Stays f) i a c found now phase actors said h = told_still s w u i a a found refl phase actors (said ∙ append-nil w.said) h
told_after s w u (Ends seen x) i a c found now phase actors said h =
    let first = first_of_list a.script c now in
    told_once s w u i a (record a { seen = seen; script = drop 1 a.script; doing = Begun }) c first.0
    (record { phase = w.phase; line = record { actor = i; command = c.number; seen = seen; answer = x } })
    found first.1 (ap (λ (q : List Numbered). drop 1 q) first.1) refl refl refl phase actors said h

event : (s : Setup) (w : World) (e : Event) (u : World × Heard) → step s w e ≡ Some u → IsTold s w → IsTold s u.0
event s w e u is h =
    let t = step_is s w e u is in
    let told = effect_said t.effect e.actor t.actor e.command w t.between t.made in
    let between : IsTold s t.between =
    told_after s w t.between t.effect.onward e.actor t.actor t.now t.found t.current_is told.0
    (effect_actors t.effect e.actor t.actor e.command w t.between t.made)
    (told.1 ∙ ap (λ n. w.said ++ said_after t.effect.onward w.phase e.actor n) (sym t.number)) h in
    subst (IsTold s) t.is
    (when_settled (IsTold s) t.between between (λ f end.
    let first = first_of_list f.state.script end.now end.current_is in
    told_once s t.between (ended f t.between) f.actor f.state _ end.now first.0 _
    end.found first.1 (ap (λ (q : List Numbered). drop 1 q) first.1) refl refl (sym end.number) refl refl refl between))

-- ---- as a phase begins

new_script : (p : Phase) (seen from more i : ℕ) (a : Actor) → slice_get (actors_from p seen from more) i ≡ Some a → a.script ≡ script_in p (from + i)
new_script p seen from zero i a e = absurd (cc (e))
new_script p seen from (suc more) zero a e =
    ap (λ (q : Actor). q.script) (sym (some_same _ a e)) ∙ ap (script_in p) (let same : from ≡ from + 0 = omega arith in same)
new_script p seen from (suc more) (suc i) a e =
    new_script p seen (from + 1) more i a e ∙ ap (script_in p) (let same : from + 1 + i ≡ from + suc i = omega arith in same)

-- all of a phase that has ended is answered
all_answered : (s : Scenario) (w : World) (ended : ℕ) → IsLaid s → IsAfter s ended w → suc w.phase ≡ ended → has_ended w ≡ true → IsTold (setup_of s) w
    → (actor : ℕ) (p : Phase) → slice_get s.phases w.phase ≡ Some p → numbers (script_in p actor) ≡ answered w w.phase actor
all_answered s w ended laid after is all h actor p at = go (slice_get w.actors actor) refl
  where
    go : (o : Option Actor) → slice_get w.actors actor ≡ o → numbers (script_in p actor) ≡ answered w w.phase actor
    go (Some a) found =
        let k = so_far (setup_of s) w h actor a found in
        let same : k.0 ≡ p = some_same k.0 p (sym k.1 ∙ ap (λ (q : List Phase). slice_get q w.phase) (phases_are s) ∙ at) in
        ap (λ (q : Phase). numbers (script_in q actor)) (sym same)
        ∙ ap numbers (k.2.1 ∙ ap (λ q. k.2.0 ++ q) (ended_each w.actors actor a all found) ∙ append-nil k.2.0) ∙ k.2.2
    go None found =
        let many : length w.actors ≡ p.actors =
        phases_length (setup_of s) w.phase 0 s.phases after.events (opening (setup_of s)) w
        (subst (λ n. run_phases (setup_of s) 0 (take n s.phases) after.events (opening (setup_of s)) ≡ Some w) (sym is) after.is) p at in
        let few : length w.actors ≤ actor = none_there w.actors actor found in
        ap numbers (no_script (setup_of s) p.actors actor p.lines (all_at (IsPhase (setup_of s)) s.phases w.phase p laid.phases at).lines
        (subst (λ n. n ≤ actor) many few)) ∙ sym (h.none actor few)

-- before a phase nothing of it is told
none_before : (s : Scenario) (ended actor : ℕ) (w : World) → IsBetween s ended w → IsTold (setup_of s) w → tells ended actor w.said ≡ []
none_before s ended actor w between h = ⊎_elim
    (λ first. ap (λ (q : World). tells ended actor q.said) first.0)
    (λ is. none_told ended actor w.said (all_on (λ (x : Said). x.phase ≤ w.phase) (λ (x : Said). x.phase < ended) (λ x le. omega (arith, le, is)) w.said h.latest))
    between.next

latest_before : (s : Scenario) (ended : ℕ) (w : World) → IsBetween s ended w → IsTold (setup_of s) w → AllByRecursion (λ (x : Said). x.phase ≤ ended) w.said
latest_before s ended w between h = ⊎_elim
    (λ first. subst (λ (q : World). AllByRecursion (λ (x : Said). x.phase ≤ ended) q.said) (sym first.0) tt)
    (λ is. all_on (λ (x : Said). x.phase ≤ w.phase) (λ (x : Said). x.phase ≤ ended) (λ x le. omega (arith, le, is)) w.said h.latest)
    between.next

-- all of the phases before it is answered
earlier_all : (s : Scenario) (ended : ℕ) (w : World) → IsLaid s → IsBetween s ended w → IsTold (setup_of s) w → (phase actor : ℕ) (p : Phase) → phase < ended
    → slice_get (setup_of s).phases phase ≡ Some p → numbers (script_in p actor) ≡ answered w phase actor
earlier_all s ended w laid between h phase actor p less at = ⊎_elim
    (λ first. let none = first.1 in absurd (omega (arith, less, none)))
    (λ is. ⊎_elim
    (λ before. h.earlier phase actor p before at)
    (λ same. subst (λ n. numbers (script_in p actor) ≡ answered w n actor) (sym same)
    (all_answered s w ended laid between.after is between.all_ended h actor p
    (ap (λ (q : List Phase). slice_get q w.phase) (sym (phases_are s)) ∙ subst (λ n. slice_get (setup_of s).phases n ≡ Some p) same at)))
    (below_or_same phase w.phase (let k : phase < suc w.phase = subst (λ n. phase < n) (sym is) less in k)))
    between.next

begin : (s : Scenario) (ended : ℕ) (p : Phase) (w : World) → IsLaid s → IsBetween s ended w → slice_get s.phases ended ≡ Some p → IsTold (setup_of s) w
    → IsTold (setup_of s) (begins ended p w)
begin s ended p w laid between at h = record {
  order = λ actor a e. (
    p,
    ap (λ (q : List Phase). slice_get q ended) (phases_are s) ∙ at,
    (
      [],
      sym (new_script p (newest w) 0 p.actors actor a e ∙ ap (script_in p) (let same : 0 + actor ≡ actor = omega arith in same)),
      sym (none_before s ended actor w between h),
    ),
  );
  none = λ actor few. none_before s ended actor w between h;
  earlier = λ phase actor q less is. earlier_all s ended w laid between h phase actor q less is;
  latest = latest_before s ended w between h;
}

pub told_is_kept : IsPart (λ s w. IsTold s w)
told_is_kept = record {
  first = λ s laid. record {
    order = λ actor a e. absurd (cc (e));
    none = λ actor few. refl;
    earlier = λ phase actor p less is. absurd (omega (arith, less));
    latest = tt;
  };
  begin = λ s ended p w laid between at sound steady. begin s ended p w laid between at steady.told;
  event = λ s w e u laid is stepped sound steady after. event (setup_of s) w e u stepped steady.told;
}
