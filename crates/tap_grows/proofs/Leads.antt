-- A run leads to each world that it reaches, and worlds grow along it.
use Rattle.std.proofs.Common.{◌≡◌, ℕ, zero, suc, ◌+◌, ◌≤◌, List, [], ◌∷◌, length, take, Bool, true, false, true≢false, Some, inl, inr, ⊎_elim, refl, sym, ap, ◌∙◌, subst, arith}
use Rattle.std.specs.Prelude.{slice_get}
use Rattle.scen_text.specs.declared.scenario.Phase.{Phase}
use Rattle.scen_text.specs.declared.scenario.Scenario.{Scenario}
use Rattle.scen_laid.specs.Laid.{IsLaid}
use Rattle.tap_sound.specs.Worlds.{IsWorldOf, OpeningIsFirst, PhasesBegin, PhasesEnd, WorldsGoOn}
use Rattle.tap_sound.proofs.Kit.{some_same, then_some}
use Rattle.tap_sound.proofs.Taken.{if_some}
use Rattle.tap_steady.specs.Part.{IsBetween}
use Rattle.tap_world.specs.declared.event.Event.{Event}
use Rattle.tap_world.specs.declared.event.Heard.{Heard}
use Rattle.tap_world.specs.Runs.{IsRun, begins, has_ended, opening, run, run_phases}
use Rattle.tap_world.specs.Setup.{Setup, setup_of}
use Rattle.tap_world.specs.Step.{step}
use Rattle.tap_world.specs.World.{World}
use Rattle.tap_grows.specs.Grows.{Grows}
use Rattle.tap_grows.specs.Leads.{CameBy, IsOfEvents, Leads, Passes}
use Rattle.tap_grows.specs.Leads.Leads.{Begins, Goes, Here}
use Rattle.tap_grows.specs.Runs.{BeginningsGrow, EventsGrow}
use Rattle.tap_grows.proofs.Events.{phase_stays}
use Rattle.tap_grows.proofs.Orders.{grows_on, grows_to_itself}

-- ---- events

lead_on : (s : Scenario) (o : World) (es : List Event) (w u : World) → Leads s o w → run (setup_of s) es w ≡ Some u
    → Leads s o u
lead_on s o [] w u on e = subst (Leads s o) (some_same w u e) on
lead_on s o (x ∷ es) w u on e =
    let t = then_some (step (setup_of s) w x) _ u e in
    lead_on s o es t.0.0 u (Goes w t.0.0 x t.0.1 on t.1) t.2

pub events_lead : (s : Scenario) (es : List Event) (w u : World) → run (setup_of s) es w ≡ Some u → Leads s w u
events_lead s es w u e = lead_on s w es w u Here e

run_phase : (s : Setup) (es : List Event) (w u : World) → run s es w ≡ Some u → u.phase ≡ w.phase
run_phase s [] w u e = ap (λ (q : World). q.phase) (sym (some_same w u e))
run_phase s (x ∷ es) w u e =
    let t = then_some (step s w x) _ u e in
    run_phase s es t.0.0 u t.2 ∙ phase_stays s w x t.0 t.1

-- ---- phases

-- these phases are those from a number on, as far as they go
abbrev AreFrom : Scenario → ℕ → List Phase → Type 0
AreFrom s number ps = (k : ℕ) (p : Phase) → slice_get ps k ≡ Some p → slice_get s.phases (number + k) ≡ Some p

from_start : (s : Scenario) (k : ℕ) (p : Phase) → slice_get s.phases k ≡ Some p → slice_get s.phases (0 + k) ≡ Some p
from_start s k p e =
    subst (λ (j : ℕ). slice_get s.phases j ≡ Some p) (let z : k ≡ 0 + k = omega arith in z) e

phases_lead : PhasesEnd → (s : Scenario) (o : World) (number : ℕ) (ps : List Phase) (es : List (List Event)) (w v : World)
    → run_phases (setup_of s) number ps es w ≡ Some v → AreFrom s number ps → Leads s o w → IsBetween s number w
    → Leads s o v × IsBetween s (number + length ps) v
phases_lead end s o number [] [] w v e from on between =
    let same = some_same w v e in (
      subst (Leads s o) same on,
      subst (λ (k : ℕ). IsBetween s k v) (let z : number ≡ number + 0 = omega arith in z)
          (subst (IsBetween s number) same between),
    )
phases_lead end s o number [] (d ∷ es) w v e from on between = absurd (cc (e))
phases_lead end s o number (p ∷ ps) [] w v e from on between = absurd (cc (e))
phases_lead end s o number (p ∷ ps) (d ∷ es) w v e from on between =
    let t = then_some (run (setup_of s) d (begins number p w)) _ v e in
    let c = if_some (has_ended t.0) _ v t.2 in
    let is : slice_get s.phases number ≡ Some p =
    subst (λ (k : ℕ). slice_get s.phases k ≡ Some p) (let z : number + 0 ≡ number = omega arith in z) (from 0 p refl) in
    let stays = run_phase (setup_of s) d (begins number p w) t.0 t.1 in
    let next : IsBetween s (number + 1) t.0 = record {
      after = end s number w t.0 between.after (record { phase = p; is_next = is; so_far = d; is = t.1 }) c.0;
      all_ended = c.0;
      next = inr (omega (arith, stays));
    } in
    let rest = phases_lead end s o (number + 1) ps es t.0 v c.1
    (λ k q e. subst (λ (j : ℕ). slice_get s.phases j ≡ Some q)
    (let z : number + suc k ≡ (number + 1) + k = omega arith in z) (from (suc k) q e))
    (lead_on s o d (begins number p w) t.0 (Begins w number p on between is) t.1) next in (
      rest.0,
      subst (λ (k : ℕ). IsBetween s k v)
          (let z : (number + 1) + length ps ≡ number + suc (length ps) = omega arith in z) rest.1,
    )

first_between : OpeningIsFirst → (s : Scenario) → IsBetween s 0 (opening (setup_of s))
first_between first s = record { after = first s; all_ended = refl; next = inl (refl, refl) }

taken : (n : ℕ) (ps : List Phase) (k : ℕ) (p : Phase) → slice_get (take n ps) k ≡ Some p → slice_get ps k ≡ Some p
taken zero ps k p e = absurd (cc (e))
taken (suc n) [] k p e = absurd (cc (e))
taken (suc n) (q ∷ ps) zero p e = e
taken (suc n) (q ∷ ps) (suc k) p e = taken n ps k p e

taken_many : (n : ℕ) (ps : List Phase) (p : Phase) → slice_get ps n ≡ Some p → length (take n ps) ≡ n
taken_many n [] p e = absurd (cc (e))
taken_many zero (q ∷ ps) p e = refl
taken_many (suc n) (q ∷ ps) p e = ap suc (taken_many n ps p e)

pub reached_is_led : OpeningIsFirst → PhasesEnd → (s : Scenario) (w : World) → IsWorldOf s w
    → Leads s (opening (setup_of s)) w
reached_is_led first end s w h =
    let o : World = opening (setup_of s) in
    let b = phases_lead end s o 0 (take h.ended s.phases) h.is_before.events o h.before h.is_before.is
    (λ k p e. from_start s k p (taken h.ended s.phases k p e)) Here (first_between first s) in
    ⊎_elim (λ same. subst (Leads s o) (sym same) b.0)
    (λ p.
    let many = taken_many h.ended s.phases p.phase p.is_next in
    let between : IsBetween s h.ended h.before =
    subst (λ (k : ℕ). IsBetween s k h.before) (omega (arith, many)) b.1 in
    lead_on s o p.so_far (begins h.ended p.phase h.before) w (Begins h.before h.ended p.phase b.0 between p.is_next) p.is)
    h.now

pub run_leads : OpeningIsFirst → PhasesEnd → (s : Scenario) (events : List (List Event)) (w : World) → IsRun s events w
    → Leads s (opening (setup_of s)) w
run_leads first end s events w e =
    (phases_lead end s (opening (setup_of s)) 0 s.phases events (opening (setup_of s)) w e (from_start s) Here
    (first_between first s)).0

-- ---- what it passes

pub passed_is_allowed : (s : Scenario) (o w : World) (r : Leads s o w) (v : World) (e : Event) (u : World) → Passes r v e u
    → Leads s o v × (h : Heard) × (step (setup_of s) v e ≡ Some (u, h)) × Leads s u w
passed_is_allowed s o w Here v e u p = absurd p
passed_is_allowed s o w (Goes x y f h on is) v e u (inl p) = (
  subst (Leads s o) p.0 on,
  h,
  subst (λ (q : World). step (setup_of s) q e ≡ Some (u, h)) p.0
      (subst (λ (q : Event). step (setup_of s) x q ≡ Some (u, h)) p.1
      (subst (λ (q : World). step (setup_of s) x f ≡ Some (q, h)) p.2 is)),
  subst (λ (q : World). Leads s q y) p.2 Here,
)
passed_is_allowed s o w (Goes x y f h on is) v e u (inr p) =
    let t = passed_is_allowed s o x on v e u p in (t.0, t.1, t.2, Goes x y f h t.3 is)
passed_is_allowed s o w (Begins x ended q on between is) v e u p =
    let t = passed_is_allowed s o x on v e u p in (t.0, t.1, t.2, Begins x ended q t.3 between is)

pub changes_are_events : (s : Scenario) (o w : World) (r : Leads s o w) (test : World → Bool) → IsOfEvents test
    → test o ≡ false → test w ≡ true → CameBy r test
changes_are_events s o w Here test of was is = absurd (true≢false (sym is ∙ was))
changes_are_events s o w (Goes x y f h on step_) test of was is =
    go (test x) refl (λ so. changes_are_events s o x on test of was so)
  where
    go : (b : Bool) → test x ≡ b → (test x ≡ true → CameBy on test) → CameBy (Goes x y f h on step_) test
    go false not_yet sooner = record {
      before = x;
      event = f;
      after = y;
      passes = inl (refl, refl, refl);
      was = not_yet;
      is = is;
    }
    go true so sooner =
        let t = sooner so in
        record { before = t.before; event = t.event; after = t.after; passes = inr t.passes; was = t.was; is = t.is }
changes_are_events s o w (Begins x ended p on between next) test of was is =
    let t = changes_are_events s o x on test of was (sym (of ended p x) ∙ is) in
    record { before = t.before; event = t.event; after = t.after; passes = t.passes; was = t.was; is = t.is }

-- ---- worlds along it

pub phase_after : (s : Scenario) (ended : ℕ) (w : World) → IsBetween s ended w → w.phase ≤ ended
phase_after s ended w h = ⊎_elim
    (λ first. let zero_ = ap (λ (q : World). q.phase) first.0 in omega (arith, zero_))
    (λ is. omega (arith, is))
    h.next

pub begun_world : PhasesBegin → (s : Scenario) (ended : ℕ) (p : Phase) (w : World) → IsBetween s ended w
    → slice_get s.phases ended ≡ Some p → IsWorldOf s (begins ended p w)
begun_world begin s ended p w h is =
    record { ended = ended; before = w; is_before = h.after; now = inr (begin s ended p w is) }

pub runs_grow : PhasesBegin → WorldsGoOn → EventsGrow → BeginningsGrow → (s : Scenario) (w u : World) → IsLaid s
    → IsWorldOf s w → Leads s w u → IsWorldOf s u × Grows (setup_of s) w u
runs_grow begin on grow start s w z laid h Here = (h, grows_to_itself (setup_of s) w)
runs_grow begin on grow start s w z laid h (Goes v u e heard lead is) =
    let r = runs_grow begin on grow start s w v laid h lead in (
      on s v e (u, heard) is r.0,
      grows_on (setup_of s) w v u r.1 (grow s v e (u, heard) laid r.0 is),
    )
runs_grow begin on grow start s w z laid h (Begins v ended p lead between is) =
    let r = runs_grow begin on grow start s w v laid h lead in (
      begun_world begin s ended p v between is,
      grows_on (setup_of s) w v (begins ended p v) r.1
          (start (setup_of s) ended p v between.all_ended (phase_after s ended v between)),
    )
