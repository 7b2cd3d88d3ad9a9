-- This project's own: the worlds that runs of a scenario reach, and how one leads to the next.
use Rattle.std.specs.Prelude.{◌≡◌, ◌⊎◌, ℕ, ◌+◌, true, List, length, take, slice_get, Some}
use Rattle.scen_text.specs.declared.scenario.Phase.{Phase}
use Rattle.scen_text.specs.declared.scenario.Scenario.{Scenario}
use Rattle.tap_world.specs.declared.event.Event.{Event}
use Rattle.tap_world.specs.declared.event.Heard.{Heard}
use Rattle.tap_world.specs.Setup.{setup_of}
use Rattle.tap_world.specs.World.{World}
use Rattle.tap_world.specs.Step.{step}
use Rattle.tap_world.specs.Runs.{IsRun, begins, has_ended, opening, run, run_phases}

-- So many of the phases have ended whole, and this is the world after them.
pub record IsAfter (s : Scenario) (ended : ℕ) (w : World) : Type 0 where
  pub events : List (List Event)
  pub is : run_phases (setup_of s) 0 (take ended s.phases) events (opening (setup_of s)) ≡ Some w

-- Behind that world there were some events of the next phase.
pub record IsInPhase (s : Scenario) (ended : ℕ) (before w : World) : Type 0 where
  pub phase : Phase
  pub is_next : slice_get s.phases ended ≡ Some phase
  pub so_far : List Event
  pub is : run (setup_of s) so_far (begins ended phase before) ≡ Some w

-- A world that a run of the scenario reaches: so many phases have ended, and then perhaps there were events of one
-- more.
pub record IsWorldOf (s : Scenario) (w : World) : Type 0 where
  pub ended : ℕ
  pub before : World
  pub is_before : IsAfter s ended before
  pub now : (w ≡ before) ⊎ IsInPhase s ended before w

-- ---- from one to the next

abbrev pub OpeningIsFirst : Type 0
OpeningIsFirst = (s : Scenario) → IsAfter s 0 (opening (setup_of s))

abbrev pub PhasesBegin : Type 0
PhasesBegin =
    (s : Scenario) (ended : ℕ) (p : Phase) (w : World) → slice_get s.phases ended ≡ Some p
    → IsInPhase s ended w (begins ended p w)

abbrev pub EventsGoOn : Type 0
EventsGoOn =
    (s : Scenario) (ended : ℕ) (before w : World) (e : Event) (u : World × Heard) → step (setup_of s) w e ≡ Some u
    → IsInPhase s ended before w → IsInPhase s ended before u.0

abbrev pub PhasesEnd : Type 0
PhasesEnd =
    (s : Scenario) (ended : ℕ) (before w : World) → IsAfter s ended before → IsInPhase s ended before w
    → has_ended w ≡ true → IsAfter s (ended + 1) w

-- After all phases it is a run.
abbrev pub LastIsRun : Type 0
LastIsRun = (s : Scenario) (w : World) (last : IsAfter s (length s.phases) w) → IsRun s last.events w

-- So every event keeps that a world is one of the scenario.
abbrev pub WorldsGoOn : Type 0
WorldsGoOn =
    (s : Scenario) (w : World) (e : Event) (u : World × Heard) → step (setup_of s) w e ≡ Some u
    → IsWorldOf s w → IsWorldOf s u.0
