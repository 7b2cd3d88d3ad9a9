-- This project's own: what it says that a part of what is steady holds in every world of a run.
use Rattle.std.specs.Prelude.{◌≡◌, ◌⊎◌, ℕ, suc, true, slice_get, Some}
use Rattle.scen_text.specs.declared.scenario.Phase.{Phase}
use Rattle.scen_text.specs.declared.scenario.Scenario.{Scenario}
use Rattle.scen_laid.specs.Laid.{IsLaid}
use Rattle.scen_laid.specs.Runs.{IsSoundWorld}
use Rattle.tap_sound.specs.Worlds.{IsAfter, IsWorldOf}
use Rattle.tap_world.specs.declared.event.Event.{Event}
use Rattle.tap_world.specs.declared.event.Heard.{Heard}
use Rattle.tap_world.specs.Runs.{begins, has_ended, opening}
use Rattle.tap_world.specs.Setup.{Setup, setup_of}
use Rattle.tap_world.specs.Steady.{IsSteady}
use Rattle.tap_world.specs.Step.{step}
use Rattle.tap_world.specs.World.{World}

-- After a world in which all have ended the phase of this number is next: the first one, or the one behind its own.
pub record IsBetween (s : Scenario) (ended : ℕ) (w : World) : Type 0 where
  pub after : IsAfter s ended w
  pub all_ended : has_ended w ≡ true
  pub next : ((w ≡ opening (setup_of s)) × (ended ≡ 0)) ⊎ (suc w.phase ≡ ended)

-- The part holds in the first world of a laid scenario, and it holds as a phase begins behind a sound and steady world.
-- Where the world before an event is sound and steady, it holds in the one after it, which is sound.
pub record IsPart (X : Setup → World → Type 0) : Type 0 where
  pub first : (s : Scenario) → IsLaid s → X (setup_of s) (opening (setup_of s))
  pub begin :
      (s : Scenario) (ended : ℕ) (p : Phase) (w : World) → IsLaid s → IsBetween s ended w
      → slice_get s.phases ended ≡ Some p → IsSoundWorld s w → IsSteady (setup_of s) w
      → X (setup_of s) (begins ended p w)
  pub event :
      (s : Scenario) (w : World) (e : Event) (u : World × Heard) → IsLaid s → IsWorldOf s w
      → step (setup_of s) w e ≡ Some u → IsSoundWorld s w → IsSteady (setup_of s) w → IsSoundWorld s u.0
      → X (setup_of s) u.0
