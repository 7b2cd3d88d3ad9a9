-- A receive turn that is to end since no frame was ready found none on the way.
use Rattle.std.proofs.Common.{◌≡◌, ℕ, zero, suc, ◌+◌, List, true, Some, ⊎_elim, refl, sym, ap, ◌∙◌, subst}
use Rattle.std.specs.Prelude.{drop, slice_get}
use Rattle.scen_laid.specs.Laid.{IsLaid}
use Rattle.scen_laid.specs.Runs.{LaidRunsAreSound}
use Rattle.scen_text.specs.declared.scenario.Phase.{Phase}
use Rattle.scen_text.specs.declared.scenario.Scenario.{Scenario}
use Rattle.tap_grows.specs.Leads.{Leads}
use Rattle.tap_grows.specs.Leads.Leads.{Begins, Goes as Led, Here}
use Rattle.tap_grows.specs.Runs.{RunsGrow}
use Rattle.tap_ground.specs.Options.{◌>>=◌}
use Rattle.tap_sound.specs.Worlds.{IsWorldOf}
use Rattle.tap_sound.proofs.Kit.{some_same, then_some}
use Rattle.tap_sound.proofs.Taken.{when_settled}
use Rattle.tap_sound.proofs.Turned.{with_nth_inv}
use Rattle.tap_steady.specs.Runs.{ReachedIsSteady}
use Rattle.vring_turns.specs.RxTurn.{RxTurn}
use Rattle.tap_world.specs.declared.event.Event.{Event}
use Rattle.tap_world.specs.declared.event.Heard.{Heard}
use Rattle.tap_world.specs.Effect.{Effect, Onward, actor_after, ending, settled}
use Rattle.tap_world.specs.Effect.Onward.{Ends, Goes, Stays}
use Rattle.tap_world.specs.Runs.{actors_from}
use Rattle.tap_world.specs.Setup.{setup_of}
use Rattle.tap_world.specs.Step as rows
use Rattle.tap_world.specs.World.{Actor, World, newest}
use Rattle.tap_world.specs.World.Doing.{Begun, Receives}
use Rattle.tap_answers.specs.Idle.{FoundNone, IdleTurnsFoundNone, is_idle}
use Rattle.tap_answers.proofs.EveryRow.{any, any_by}
use Rattle.tap_answers.proofs.Rows.{EndSays, GoesOn, at_doing}
use Rattle.tap_answers.proofs.Telling.{IsEvent, event_is, row_says}

-- what was found before an event was found before the world behind it
later : (s : Scenario) (start v w : World) (me : ℕ) (a b : Actor) (file : ℕ) → FoundNone s start v me a file
    → a.script ≡ b.script → ((z : World) → Leads s z v → Leads s z w) → FoundNone s start w me b file
later s start v w me a b file h same on = record {
  there = h.there;
  from = h.from;
  on = on h.there h.on;
  was = h.was;
  is_was = h.is_was;
  same = h.same ∙ same;
  turn = h.turn;
  doing = h.doing;
  place = h.place;
  none = h.none;
}

-- an actor at a turn isn't the one whose detach ended
in_between : (v u : World) (i : ℕ) (b : Actor) (file : ℕ) (t : RxTurn) → settled v (ending v) ≡ u
    → b.doing ≡ Receives file t → slice_get u.actors i ≡ Some b → slice_get v.actors i ≡ Some b
in_between v u i b file t is doing =
    subst (λ (z : World). slice_get z.actors i ≡ Some b → slice_get v.actors i ≡ Some b) is
    (when_settled (λ (z : World). slice_get z.actors i ≡ Some b → slice_get v.actors i ≡ Some b) v (λ h. h)
    (λ p end h. ⊎_elim
    (λ mine. absurd (cc (ap (λ (y : Actor). y.doing) mine.1 ∙ doing)))
    (λ other. other.1)
    (with_nth_inv p.actor (record p.state { script = drop 1 p.state.script; doing = Begun }) v.actors i b h)))

-- an actor of a phase that begins has begun no command
begun_all : (p : Phase) (seen from n i : ℕ) (a : Actor) → slice_get (actors_from p seen from n) i ≡ Some a
    → a.doing ≡ Begun
begun_all p seen from zero i a e = absurd (cc (e))
begun_all p seen from (suc n) zero a e = ap (λ (q : Actor). q.doing) (sym (some_same _ a e))
begun_all p seen from (suc n) (suc i) a e = begun_all p seen (from + 1) n i a e

module _ (s : Scenario) (start : World) (me : ℕ) (laid : IsLaid s) (reached : IsWorldOf s start)
    (runs : LaidRunsAreSound) (steady : ReachedIsSteady) (grows : RunsGrow) where
  -- its turn on a file, where it is to end so, had found none
  abbrev Had : World → Type 0
  Had w = (a : Actor) (file : ℕ) (t : RxTurn) → slice_get w.actors me ≡ Some a → a.doing ≡ Receives file t
      → is_idle t.stage ≡ true → FoundNone s start w me a file

  module _ (v u : World) (e : Event) (h : Heard) (is : rows.step (setup_of s) v e ≡ Some (u, h)) (on : Leads s start v)
      (had : Had v) (r : Effect) (ev : IsEvent (setup_of s) v e u r) where
    abbrev a : Actor
    a = ev.its.actor

    behind : (z : World) → Leads s z v → Leads s z u
    behind z lead = Led v u e h lead is

    -- of the actor that acted
    acted : slice_get v.actors me ≡ Some a → e.actor ≡ me → (b : Actor) (file : ℕ) (t : RxTurn)
        → actor_after r.onward a ≡ b → b.doing ≡ Receives file t → is_idle t.stage ≡ true
        → FoundNone s start u me b file
    acted at_a mine b file t same doing idle = go r.onward refl same
      where
        says : EndSays (setup_of s) (at_doing v u e.actor a.seen e.command a.doing) ev.its.now.command r.onward
        says = row_says any any_by s v e u laid ((runs s laid).reached v (grows s start v laid reached on).0).sound
            (steady s v laid (grows s start v laid reached on).0) r ev refl

        go : (q : Onward) → r.onward ≡ q → actor_after q a ≡ b → FoundNone s start u me b file
        go (Ends seen y) ends after = absurd (cc (ap (λ (x : Actor). x.doing) after ∙ doing))
        go (Stays f) stays after = later s start v u me a b file
            (had a file t at_a (ap (λ (x : Actor). x.doing) after ∙ doing) idle)
            (ap (λ (x : Actor). x.script) after) behind
        go (Goes seen d f) goes after =
            let was = subst (GoesOn (at_doing v u e.actor a.seen e.command a.doing) seen)
            (ap (λ (x : Actor). x.doing) after ∙ doing)
            (subst (EndSays (setup_of s) (at_doing v u e.actor a.seen e.command a.doing) ev.its.now.command) goes
            says) idle in
            ⊎_elim
            (λ before. later s start v u me a b file (had a file was.0 at_a was.1 before)
            (ap (λ (x : Actor). x.script) after) behind)
            (λ now. record {
              there = v;
              from = on;
              on = behind v Here;
              was = a;
              is_was = at_a;
              same = ap (λ (x : Actor). x.script) after;
              turn = was.0;
              doing = was.1;
              place = now.0;
              none = now.1;
            })
            was.2

    event : Had u
    event b file t at_b doing idle = ⊎_elim
        (λ mine. acted (subst (λ (m : ℕ). slice_get v.actors m ≡ Some a) mine.0 ev.its.found) mine.0 b file t mine.1
        doing idle)
        (λ other. later s start v u me b b file (had b file t other.1 doing idle) refl behind)
        (with_nth_inv e.actor (actor_after r.onward a) v.actors me b
        (ap (λ (l : List Actor). slice_get l me) (sym ev.actors)
        ∙ in_between ev.between u me b file t ev.settles doing at_b))

  module _ (begun : Actor) (is_begun : slice_get start.actors me ≡ Some begun) (not_yet : begun.doing ≡ Begun) where
    along : (w : World) → Leads s start w → Had w
    along w Here = λ b file t at_b doing idle.
        absurd (cc (sym not_yet ∙ ap (λ (x : Actor). x.doing) (some_same begun b (sym is_begun ∙ at_b)) ∙ doing))
    along w (Led v u e h on is) =
        let r = then_some (rows.effect (setup_of s) v e)
        (λ y. slice_get v.actors e.actor >>= λ b. rows.stepped y e b v) (u, h) is in
        event v u e h is on (along v on) r.0 (event_is (setup_of s) v e (u, h) r.0 is r.1)
    along w (Begins v ended p on between is) = λ b file t at_b doing idle.
        absurd (cc (sym (begun_all p (newest v) 0 p.actors me b at_b) ∙ doing))

pub idle_turns_found_none : LaidRunsAreSound → ReachedIsSteady → RunsGrow → IdleTurnsFoundNone
idle_turns_found_none runs steady grows s start w me begun a file t laid reached is_begun not_yet on at_a doing idle =
    along s start me laid reached runs steady grows begun is_begun not_yet w on a file t at_a doing idle
