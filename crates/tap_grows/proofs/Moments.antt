-- Each answer of a run has its moment, and answers follow one another as their commands do.
use Rattle.std.proofs.Common.{◌≡◌, ℕ, zero, suc, ◌≤◌, Some, inl, ⊎_elim, refl, subst, arith}
use Rattle.std.specs.Prelude.{slice_get}
use Rattle.scen_text.specs.declared.scenario.Phase.{Phase}
use Rattle.scen_text.specs.declared.scenario.Scenario.{Scenario}
use Rattle.scen_laid.specs.Laid.{IsLaid}
use Rattle.scen_laid.specs.Phases.{IsPhase}
use Rattle.scen_laid.specs.Runs.{LaidRunsAreSound}
use Rattle.tap_sound.specs.Worlds.{IsWorldOf, OpeningIsFirst, PhasesBegin, WorldsGoOn}
use Rattle.tap_steady.specs.Part.{IsBetween}
use Rattle.tap_steady.specs.Runs.{ReachedIsSteady}
use Rattle.tap_world.specs.declared.event.Event.{Event}
use Rattle.tap_world.specs.Runs.{actors_from, begins, opening}
use Rattle.tap_world.specs.Setup.{setup_of}
use Rattle.tap_world.specs.World.{Actor, World, newest}
use Rattle.tap_grows.specs.Grows.{Grows}
use Rattle.tap_grows.specs.Leads.{Leads, Passes}
use Rattle.tap_grows.specs.Leads.Leads.{Begins, Goes, Here}
use Rattle.tap_grows.specs.Moments.IsNext.{First}
use Rattle.tap_grows.specs.Runs.{BeginningsGrow, EventsGrow, SeenRises}
use Rattle.tap_grows.proofs.Events.{begun_all, begun_seen}
use Rattle.tap_grows.proofs.Leads.{begun_world, phase_after}
use Rattle.tap_grows.proofs.Numbers.{all_at}
use Rattle.tap_grows.proofs.Orders.{grows_on, grows_to_itself}
use Rattle.tap_grows.proofs.Sights.{no_shorter}
use Rattle.tap_grows.proofs.AfterEvent.{after_event}
use Rattle.tap_grows.proofs.States.{State, later}

-- ---- the beginning of a phase

first_actor : (p : Phase) (seen n : ℕ) → 1 ≤ n → (a : Actor) × (slice_get (actors_from p seen 0 n) 0 ≡ Some a)
first_actor p seen zero le = absurd (omega (arith, le))
first_actor p seen (suc n) le = (_, refl)

-- no event was passed in a phase that begins
none_yet : (s : Scenario) (v : World) (r : Leads s (opening (setup_of s)) v) (ended : ℕ) → State s v r → IsBetween s ended v
    → (x : World) (f : Event) (y : World) → Passes r x f y → x.phase ≡ ended → ⊥
none_yet s v r ended st between x f y p phase =
    let w = st.passed x f y p in
    let le = w.so_far in
    ⊎_elim
    (λ first. cc (subst (λ (q : World). slice_get q.actors w.actor ≡ Some w.is) first.0 w.there))
    (λ is. omega (arith, le, phase, is))
    between.next

pub after_beginning : (s : Scenario) (v : World) (ended : ℕ) (p : Phase) (r : Leads s (opening (setup_of s)) v) → IsLaid s
    → State s v r → (between : IsBetween s ended v) (is : slice_get s.phases ended ≡ Some p)
    → IsWorldOf s (begins ended p v) → Grows (setup_of s) v (begins ended p v)
    → State s (begins ended p v) (Begins v ended p r between is)
after_beginning s v ended p r laid st between is after grows =
    let u : World = begins ended p v in
    let some = (all_at (IsPhase (setup_of s)) s.phases ended p laid.phases is).some in
    let first = first_actor p (newest v) p.actors some in
    record {
      reached = after;
      passed = λ x f y q.
          let w = st.passed x f y q in
          let le = w.so_far in
          let next = phase_after s ended v between in
          record {
            rest = grows_on (setup_of s) y v u w.rest grows;
            so_far = omega (arith, le, next);
            actor = 0;
            is = first.0;
            there = first.1;
          };
      has = record {
        moment = λ k x at_. later u (λ o on. Begins v ended p on between is) grows (st.has.moment k x at_);
        earlier = st.has.earlier;
        known = st.has.known;
        passed = st.has.passed;
        around = st.has.around;
      };
      waits = λ i a at_. record {
        start = u;
        reached = after;
        on = Here;
        grown = grows_to_itself (setup_of s) u;
        phase = refl;
        was = a;
        is_was = at_;
        script = refl;
        begun = begun_all p (newest v) 0 p.actors i a at_;
        next = First p v between is refl;
        sees = omega arith;
        known = λ k x is_x c.
            let m = st.has.moment k x is_x in
            let told = m.to in
            let more = no_shorter m.after.ops v.ops m.grows.ops in
            let new_ = begun_seen p (newest v) 0 p.actors i a at_ in omega (arith, told, more, new_);
        behind = λ k x is_x c. grows_on (setup_of s) (st.has.moment k x is_x).after v u (st.has.moment k x is_x).grows grows;
        past = λ x f y q phase actor c now. absurd (none_yet s v r ended st between x f y q phase);
      };
    }

-- ---- runs

pub record RunLaws : Type 0 where
  pub first : OpeningIsFirst
  pub begin : PhasesBegin
  pub next : WorldsGoOn
  pub steady : ReachedIsSteady
  pub events : EventsGrow
  pub beginnings : BeginningsGrow
  pub sound : LaidRunsAreSound
  pub seen : SeenRises

at_first : RunLaws → (s : Scenario) → State s (opening (setup_of s)) Here
at_first laws s = record {
  reached = record {
    ended = 0;
    before = opening (setup_of s);
    is_before = laws.first s;
    now = inl refl;
  };
  passed = λ x f y p. absurd p;
  has = record {
    moment = λ k x e. absurd (cc (e));
    earlier = λ j k x y is_x is_y b. absurd (cc (is_x));
    known = λ j k x y is_x is_y b. absurd (cc (is_x));
    passed = λ k x is_x. absurd (cc (is_x));
    around = λ k x is_x y f z p. absurd p;
  };
  waits = λ i a e. absurd (cc (e));
}

pub along : RunLaws → (s : Scenario) (w : World) (r : Leads s (opening (setup_of s)) w) → IsLaid s → State s w r
along laws s w Here laid = at_first laws s
along laws s w (Goes v u e h on is) laid =
    let b = along laws s v on laid in
    let after = laws.next s v e (u, h) is b.reached in
    after_event s laid v u e h is on b after (laws.events s v e (u, h) laid b.reached is)
    (laws.steady s v laid b.reached).told (laws.steady s u laid after).told
    (laws.seen (setup_of s) v e (u, h) is ((laws.sound s laid).reached v b.reached).sound.versions)
    ((laws.sound s laid).reached u after).sound.versions
along laws s w (Begins v ended p on between is) laid =
    after_beginning s v ended p on laid (along laws s v on laid) between is (begun_world laws.begin s ended p v between is)
    (laws.beginnings (setup_of s) ended p v between.all_ended (phase_after s ended v between))
