-- This project's own: the run of a scenario that a seed picks, and its trace.
use Rattle.std.specs.Prelude.{◌≡◌, ◌↔◌, ℕ, List, true}
use Rattle.scen_laid.specs.Laid.{IsLaid}
use Rattle.scen_laid.specs.Runs.{HasCountedRings, LeavesInOrder}
use Rattle.scen_text.specs.declared.scenario.Scenario.{Scenario}
use Rattle.tap_trace.specs.declared.trace.Trace.{Trace}
use Rattle.tap_world.specs.declared.event.Event.{Event}
use Rattle.tap_world.specs.Project.{project}
use Rattle.tap_world.specs.Runs.{IsOrder, IsRun, has_ended}
use Rattle.tap_world.specs.Setup.{setup_of}
use Rattle.tap_world.specs.Sound.{IsSound}
use Rattle.tap_world.specs.SoundNames.{NamesStandOnce}
use Rattle.tap_world.specs.World.{World}

-- The trace is that of the run which the seed picks.
pub record IsPlainRun (s : Scenario) (seed : ℕ) (t : Trace) : Type 0 where
  pub events : List (List Event)
  pub world : World
  pub order : IsOrder s seed events world
  pub trace : t ≡ project (setup_of s) world

-- Such a run is a run of the scenario: each of its events was allowed, and in the end no command is left.
abbrev pub PlainRunsAreRuns : Type 0
PlainRunsAreRuns = (s : Scenario) (seed : ℕ) (t : Trace) (p : IsPlainRun s seed t) → IsRun s p.events p.world

-- ---- what is so of it

-- It is a run of the scenario, and the world that it ends in is sound. Each accepted frame stands there exactly once:
-- in a line with its fate, among the dropped ones, or with the host. Frames left each line in the order placed. On each
-- ring the published chains have its positions one after another, so none was published twice; and no command is left.
pub record IsSoundRun (s : Scenario) (events : List (List Event)) (w : World) : Type 0 where
  pub is_run : IsRun s events w
  pub sound : IsSound (setup_of s) w
  pub once : NamesStandOnce w
  pub in_order : LeavesInOrder w
  pub counted : HasCountedRings w
  pub ended : has_ended w ≡ true

-- The run of a seed is so, of each scenario that is laid.
abbrev pub PlainRunsAreSound : Type 0
PlainRunsAreSound =
    (s : Scenario) (seed : ℕ) (t : Trace) → IsLaid s → (p : IsPlainRun s seed t) → IsSoundRun s p.events p.world

-- ---- which trace it is

-- A scenario has at most one trace for each seed.
abbrev pub OnePlainTrace : Type 0
OnePlainTrace = (s : Scenario) (seed : ℕ) (t u : Trace) → IsPlainRun s seed t → IsPlainRun s seed u → t ≡ u

-- A scenario and its upgrade to version 2 have the same traces, seed by seed.
abbrev pub UpgradeHasSameTraces : Type 0
UpgradeHasSameTraces =
    (s : Scenario) (seed : ℕ) (t : Trace) → IsPlainRun s seed t ↔ IsPlainRun (record s { version = 2 }) seed t
