-- This project's own: that every run of a laid scenario can go on until all commands of its phase have ended.
use Rattle.std.specs.Prelude.{◌≡◌, ℕ, true, false, slice_get, Some}
use Rattle.scen_text.specs.declared.scenario.Scenario.{Scenario}
use Rattle.scen_laid.specs.Laid.{IsLaid}
use Rattle.tap_sound.specs.Worlds.{IsWorldOf}
use Rattle.tap_world.specs.declared.event.Event.{Event}
use Rattle.tap_world.specs.Runs as runs
use Rattle.tap_world.specs.Runs.{choices, has_ended}
use Rattle.tap_world.specs.Runs.Next.{Does}
use Rattle.tap_world.specs.Setup.{Setup, setup_of}
use Rattle.tap_world.specs.Step.{is_allowed}
use Rattle.tap_world.specs.World.{World}
use Rattle.tap_waits.specs.Next.{EachHasNext}
use Rattle.tap_waits.specs.NextChoices.{HasChoices}

-- an event that is allowed: it is what its actor does next, and one that a run can choose
pub record CanGoOn (s : Setup) (w : World) : Type 0 where
  pub event : Event
  pub allowed : is_allowed s w event ≡ true
  pub next : runs.next s w event.actor ≡ Does event
  pub place : ℕ
  pub chosen : slice_get (choices s w) place ≡ Some event

-- In each world that a run of a laid scenario reaches, the table of who waits is right, and tells what a run can choose
-- from; and while a command hasn't ended some event is allowed.
pub record IsGoing (s : Setup) (w : World) : Type 0 where
  pub each : EachHasNext s w
  pub choices : HasChoices s w
  pub goes_on : has_ended w ≡ false → CanGoOn s w

abbrev pub RunsGoOn : Type 0
RunsGoOn = (s : Scenario) (w : World) → IsLaid s → IsWorldOf s w → IsGoing (setup_of s) w
