-- The phases of a scenario, one after another.
use Rattle.std.proofs.Common.{◌≡◌, ℕ, ◌+◌, ◌<◌, ◌≤◌, true, List, [], ◌∷◌, length, drop, IfSome, Option, Some, refl, sym, ap, subst, ◌∙◌}
use Rattle.std.specs.Prelude.{slice_get}
use Rattle.std.proofs.lemmas.List.{drop_all}
use Rattle.scen_text.specs.declared.scenario.Phase.{Phase}
use Rattle.scen_text.specs.declared.scenario.Scenario.{Scenario}
use Rattle.tap_core.specs.Running.{Running}
use Rattle.tap_trace.specs.declared.trace.Trace.{Trace}
use Rattle.tap_world.specs.declared.event.Event.{Event}
use Rattle.tap_world.specs.Project.{project}
use Rattle.tap_world.specs.Runs.{AreChosen, IsChosen, IsOrder, begins, has_ended, opening}
use Rattle.tap_world.specs.Setup.{setup_of}
use Rattle.tap_world.specs.World.{World}
use Rattle.scen_plain.specs.Chosen.{WentOn}
use Rattle.scen_plain.specs.PlainRun.{IsPlainRun}
use Rattle.scen_plain.proofs.Lists.{left_at, one_at}

-- i phases ended, and the number is x: whatever is picked in those left makes, with what was picked, the seed's run
pub record HaveEnded (s : Scenario) (seed i x : ℕ) (core : Running) : Type 0 where
  pub scenario : core.scenario ≡ s
  pub begun : core.begun ≡ i
  pub ended : has_ended core.world ≡ true
  pub leads : (more : List (List Event)) (v : World) → AreChosen (setup_of s) x i (drop i s.phases) more core.world v
      → (events : List (List Event)) × IsOrder s seed events v

pub none_ended : (s : Scenario) (seed : ℕ) (core : Running)
    → core ≡ record { scenario = s; begun = 0; world = opening (setup_of s) } → HaveEnded s seed 0 seed core
none_ended s seed core is = subst (λ (c : Running). HaveEnded s seed 0 seed c) (sym is)
    (record { scenario = refl; begun = refl; ended = refl; leads = λ more v h. (more, h) })

-- the next phase is there
pub phase_left : (s : Scenario) (seed i x : ℕ) (core : Running) → HaveEnded s seed i x core → i < length s.phases
    → (p : Phase) × (slice_get core.scenario.phases core.begun ≡ Some p)
phase_left s seed i x core h less =
    let p = one_at s.phases i less in (
      p.0,
      subst (λ (t : Scenario). slice_get t.phases core.begun ≡ Some p.0) (sym h.scenario)
          (subst (λ (k : ℕ). slice_get s.phases k ≡ Some p.0) (sym h.begun) p.1),
    )

-- the run as a phase begins
abbrev begun_with : Running → Phase → Running
begun_with core p = record core { begun = core.begun + 1; world = begins core.begun p core.world }

one_ended : (s : Scenario) (seed i x y : ℕ) (core new : Running) (p : Phase) → HaveEnded s seed i x core
    → slice_get s.phases i ≡ Some p → WentOn x (begun_with core p) y new → HaveEnded s seed (i + 1) y new
one_ended s seed i x y core new p h is went = record {
  scenario = went.scenario ∙ h.scenario;
  begun = went.begun ∙ ap (λ (k : ℕ). k + 1) h.begun;
  ended = went.ended;
  leads = λ more v rest. h.leads (went.events ∷ more) v
      (subst (λ (ps : List Phase). AreChosen (setup_of s) x i ps (went.events ∷ more) core.world v)
      (sym (left_at s.phases i p is)) (
        y,
        new.world,
        subst (λ (k : ℕ). IsChosen (setup_of s) x went.events (begins k p core.world) y new.world) h.begun
            (subst (λ (t : Scenario). IsChosen (setup_of t) x went.events (begins core.begun p core.world) y new.world)
            h.scenario went.chosen),
        went.ended,
        rest,
      ));
}

-- one more has ended
pub more_ended : (s : Scenario) (seed i x y : ℕ) (core mid new : Running) → HaveEnded s seed i x core → i < length s.phases
    → IfSome (slice_get core.scenario.phases core.begun) (λ p. mid ≡ begun_with core p) → WentOn x mid y new
    → HaveEnded s seed (i + 1) y new
more_ended s seed i x y core mid new h less begins_so went =
    let p = phase_left s seed i x core h less in
    let is = subst (λ (o : Option Phase). IfSome o (λ p. mid ≡ begun_with core p)) p.1 begins_so in
    one_ended s seed i x y core new p.0 h
    (subst (λ (k : ℕ). slice_get s.phases k ≡ Some p.0) h.begun
    (subst (λ (t : Scenario). slice_get t.phases core.begun ≡ Some p.0) h.scenario p.1))
    (subst (λ (m : Running). WentOn x m y new) is went)

-- all have ended: this is the seed's run
pub all_ended : (s : Scenario) (seed i x : ℕ) (core : Running) (t : Trace) → HaveEnded s seed i x core → length s.phases ≤ i
    → t ≡ project (setup_of core.scenario) core.world → IsPlainRun s seed t
all_ended s seed i x core t h less told =
    let all = h.leads [] core.world
    (subst (λ (ps : List Phase). AreChosen (setup_of s) x i ps [] core.world core.world)
    (sym (drop_all i s.phases less)) refl) in
    record {
      events = all.0;
      world = core.world;
      order = all.1;
      trace = told ∙ ap (λ (c : Scenario). project (setup_of c) core.world) h.scenario;
    }
