-- Each event of a run is of a command that is answered, or is still under way.
use Rattle.std.proofs.Common.{◌≡◌, ◌⊎◌, List, true, Some, inl, inr, ⊎_elim, refl, sym, ap, ◌∙◌, subst}
use Rattle.std.specs.Prelude.{slice_get}
use Rattle.scen_text.specs.declared.scenario.Scenario.{Scenario}
use Rattle.scen_laid.specs.Laid.{IsLaid}
use Rattle.scen_laid.specs.Runs.{LaidRunsAreSound}
use Rattle.tap_sound.specs.Worlds.{IsWorldOf}
use Rattle.tap_sound.proofs.Kit.{some_same}
use Rattle.tap_sound.proofs.Scripts.{ended_each}
use Rattle.tap_sound.proofs.Taken.{IsStep, step_is}
use Rattle.tap_world.specs.declared.event.Event.{Event}
use Rattle.tap_world.specs.declared.event.Heard.{Heard}
use Rattle.tap_world.specs.declared.told.Said.{Said}
use Rattle.tap_world.specs.Runs.{has_ended, opening}
use Rattle.tap_world.specs.Setup.{Numbered, setup_of}
use Rattle.tap_world.specs.Step.{step}
use Rattle.tap_world.specs.World.{Actor, World, current}
use Rattle.tap_grows.specs.Grows.{Continues}
use Rattle.tap_grows.specs.Leads.{Leads, Passes}
use Rattle.tap_grows.specs.Leads.Leads.{Begins, Goes, Here}
use Rattle.tap_grows.specs.Moments.{IsAnswered}
use Rattle.tap_grows.specs.Runs.{EventsGrow, RunsGrow, SeenRises, SeesOn}
use Rattle.tap_grows.proofs.Events.{phase_stays}
use Rattle.tap_grows.proofs.Lines.{at_front}
use Rattle.tap_grows.proofs.Telling.{Comes, actors_after}
use Rattle.tap_grows.proofs.Telling.Comes.{Over, Still}

-- the command of an event in another world is under way, in the phase of that one
record IsUnderWay (w v : World) (e : Event) : Type 0 where
  phase : w.phase ≡ v.phase
  actor : Actor
  now : Numbered
  found : slice_get w.actors e.actor ≡ Some actor
  is_now : current actor.script ≡ Some now
  number : now.number ≡ e.command

abbrev Either : World → World → Event → Type 0
Either w v e = IsAnswered w v e ⊎ IsUnderWay w v e

module _ (s : Scenario) (v u : World) (e : Event) (h : Heard) (is : step (setup_of s) v e ≡ Some (u, h)) (sees : SeesOn v u)
    (more : Continues v.said u.said) where
  t : IsStep (setup_of s) v e u
  t = step_is (setup_of s) v e (u, h) is

  still_answered : (x : World) (f : Event) → IsAnswered v x f → IsAnswered u x f
  still_answered x f a = record {
    place = a.place;
    said = a.said;
    is = ap (λ (l : List Said). slice_get l a.place) more.1 ∙ at_front v.said more.0 a.place a.said a.is;
    phase = a.phase;
    actor = a.actor;
    command = a.command;
  }

  goes_on : (x : World) (f : Event) (w : IsUnderWay v x f) (b : Actor) → slice_get u.actors f.actor ≡ Some b
      → Comes (setup_of s) v e u f.actor b → Either u x f
  goes_on x f w b at_ (Still a found script) =
      let same : a ≡ w.actor = some_same a w.actor (sym found ∙ w.found) in
      inr (record {
        phase = phase_stays (setup_of s) v e (u, h) is ∙ w.phase;
        actor = b;
        now = w.now;
        found = at_;
        is_now = ap (λ (l : List Numbered). slice_get l 0) (script ∙ ap (λ (q : Actor). q.script) same) ∙ w.is_now;
        number = w.number;
      })
  goes_on x f w b at_ (Over k y told n actor begun) =
      let same : n.actor ≡ w.actor =
      some_same n.actor w.actor (sym n.found ∙ ap (slice_get v.actors) actor ∙ w.found) in
      let it : n.now ≡ w.now =
      some_same n.now w.now (sym n.is_now ∙ ap (λ (q : Actor). current q.script) same ∙ w.is_now) in
      inl (record {
        place = k;
        said = y;
        is = told;
        phase = n.phase ∙ w.phase;
        actor = actor;
        command = sym n.number ∙ ap (λ (q : Numbered). q.number) it ∙ w.number;
      })

  under_way_on : (x : World) (f : Event) → IsUnderWay v x f → Either u x f
  under_way_on x f w =
      let b = sees f.actor w.actor w.found in
      goes_on x f w b.0 b.1 (actors_after (setup_of s) v e u t f.actor b.0 b.1)

  its_own : IsUnderWay v v e
  its_own = record {
    phase = refl;
    actor = t.actor;
    now = t.now;
    found = t.found;
    is_now = t.current_is;
    number = t.number;
  }

  after_it : (x : World) (f : Event) (y : World) → ((v ≡ x) × (e ≡ f) × (u ≡ y)) ⊎ Either v x f → Either u x f
  after_it x f y (inl p) =
      under_way_on x f (subst (λ (q : World). IsUnderWay v q f) p.0 (subst (IsUnderWay v v) p.1 its_own))
  after_it x f y (inr (inl a)) = inl (still_answered x f a)
  after_it x f y (inr (inr w)) = under_way_on x f w

-- where all commands have ended none is under way
none_under_way : (w v : World) (e : Event) → has_ended w ≡ true → IsUnderWay w v e → ⊥
none_under_way w v e all h =
    cc (sym (ap (λ (l : List Numbered). slice_get l 0) (ended_each w.actors e.actor h.actor all h.found)) ∙ h.is_now)

pub record AnswerLaws : Type 0 where
  pub first : (s : Scenario) → IsWorldOf s (opening (setup_of s))
  pub runs : RunsGrow
  pub sound : LaidRunsAreSound
  pub seen : SeenRises
  pub events : EventsGrow

passed_by : AnswerLaws → (s : Scenario) (w : World) (r : Leads s (opening (setup_of s)) w) → IsLaid s
    → (x : World) (f : Event) (y : World) → Passes r x f y → Either w x f
passed_by laws s w Here laid x f y p = absurd p
passed_by laws s w (Goes v u e h on is) laid x f y p =
    let reached = (laws.runs s (opening (setup_of s)) v laid (laws.first s) on).0 in
    after_it s v u e h is
    (laws.seen (setup_of s) v e (u, h) is ((laws.sound s laid).reached v reached).sound.versions)
    (laws.events s v e (u, h) laid reached is).said x f y
    (⊎_elim (λ q. inl q) (λ q. inr (passed_by laws s v on laid x f y q)) p)
passed_by laws s w (Begins v ended p on between is) laid x f y q = go (passed_by laws s v on laid x f y q)
  where
    go : Either v x f → Either w x f
    go (inl a) = inl (record {
      place = a.place;
      said = a.said;
      is = a.is;
      phase = a.phase;
      actor = a.actor;
      command = a.command;
    })
    go (inr h) = absurd (none_under_way v x f between.all_ended h)

pub events_are_answered : AnswerLaws → (s : Scenario) (w : World) (r : Leads s (opening (setup_of s)) w) → IsLaid s
    → has_ended w ≡ true → (v : World) (e : Event) (u : World) → Passes r v e u → IsAnswered w v e
events_are_answered laws s w r laid all v e u p =
    ⊎_elim (λ a. a) (λ h. absurd (none_under_way w v e all h)) (passed_by laws s w r laid v e u p)
