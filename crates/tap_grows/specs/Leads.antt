-- This project's own: how a run leads from one world to another.
use Rattle.std.specs.Prelude.{◌≡◌, ◌⊎◌, ℕ, Bool, true, false, List, slice_get, Some}
use Rattle.scen_text.specs.declared.scenario.Phase.{Phase}
use Rattle.scen_text.specs.declared.scenario.Scenario.{Scenario}
use Rattle.tap_sound.specs.Worlds.{IsWorldOf}
use Rattle.tap_steady.specs.Part.{IsBetween}
use Rattle.tap_world.specs.declared.event.Event.{Event}
use Rattle.tap_world.specs.declared.event.Heard.{Heard}
use Rattle.tap_world.specs.Runs.{IsRun, begins, opening, run}
use Rattle.tap_world.specs.Setup.{setup_of}
use Rattle.tap_world.specs.Step.{step}
use Rattle.tap_world.specs.World.{World}

-- A run leads from a world to another: to itself; by an allowed event; and by the beginning of the next phase, where
-- all commands have ended.
pub data Leads (s : Scenario) (w : World) : World → Type 0 where
  Here : Leads s w w
  Goes : (v u : World) (e : Event) (h : Heard) → Leads s w v → step (setup_of s) v e ≡ Some (u, h) → Leads s w u
  Begins : (v : World) (ended : ℕ) (p : Phase) → Leads s w v → IsBetween s ended v → slice_get s.phases ended ≡ Some p
      → Leads s w (begins ended p v)

-- an event that a run has passed: from the one world it led to the other
abbrev pub Passes : {s : Scenario} {o w : World} → Leads s o w → World → Event → World → Type 0
Passes Here v e u = ⊥
Passes (Goes x y f h on is) v e u = ((x ≡ v) × (f ≡ e) × (y ≡ u)) ⊎ Passes on v e u
Passes (Begins x ended p on between is) v e u = Passes on v e u

-- The run led to the first world, its event was allowed, and the run led on from the other.
abbrev pub PassedIsAllowed : Type 0
PassedIsAllowed =
    (s : Scenario) (o w : World) (r : Leads s o w) (v : World) (e : Event) (u : World) → Passes r v e u
    → Leads s o v × (h : Heard) × (step (setup_of s) v e ≡ Some (u, h)) × Leads s u w

-- no beginning of a phase changes what a test says
abbrev pub IsOfEvents : (World → Bool) → Type 0
IsOfEvents test = (number : ℕ) (p : Phase) (w : World) → test (begins number p w) ≡ test w

-- the event of a run by which a test turned out true
pub record CameBy {s : Scenario} {o w : World} (r : Leads s o w) (test : World → Bool) : Type 0 where
  pub before : World
  pub event : Event
  pub after : World
  pub passes : Passes r before event after
  pub was : test before ≡ false
  pub is : test after ≡ true

-- What is so, and wasn't where the run began, came to be so by an event of the run.
abbrev pub ChangesAreEvents : Type 0
ChangesAreEvents =
    (s : Scenario) (o w : World) (r : Leads s o w) (test : World → Bool) → IsOfEvents test → test o ≡ false
    → test w ≡ true → CameBy r test

-- Events lead on; from the opening a run leads to each world that it reaches, and to the one that it ends in.
abbrev pub EventsLead : Type 0
EventsLead = (s : Scenario) (es : List Event) (w u : World) → run (setup_of s) es w ≡ Some u → Leads s w u

abbrev pub ReachedIsLed : Type 0
ReachedIsLed = (s : Scenario) (w : World) → IsWorldOf s w → Leads s (opening (setup_of s)) w

abbrev pub RunLeads : Type 0
RunLeads = (s : Scenario) (events : List (List Event)) (w : World) → IsRun s events w → Leads s (opening (setup_of s)) w
