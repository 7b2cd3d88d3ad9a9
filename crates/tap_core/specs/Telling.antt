-- This project's own: what a run tells of what comes next and of what was done.
use Rattle.std.specs.Prelude.{◌≡◌, Option, Some, None}
use Rattle.tap_world.specs.declared.event.Event.{Event}
use Rattle.tap_world.specs.declared.event.Found.{Found}
use Rattle.tap_world.specs.declared.event.Heard.{Heard}
use Rattle.tap_world.specs.declared.event.Heard.TheVariants as heard
use Rattle.tap_world.specs.Runs as runs
use Rattle.tap_world.specs.Setup.{setup_of}
use Rattle.tap_world.specs.Step.{step}
use Rattle.tap_core.specs.Running.{Running}
use Rattle.tap_core.specs.declared.next.Next.{Next}
use Rattle.tap_core.specs.declared.next.Next.TheVariants as next

-- what an actor does next, in the words of the world
abbrev pub next_told : Next → runs.Next
next_told (next.Does event) = runs.Next.Does event
next_told next.Waits = runs.Next.Waits
next_told next.Ended = runs.Next.Ended

-- what an event found, where it isn't the last of its command; the answer of a command stands among those given
abbrev pub found_in : Heard → Option Found
found_in (heard.Found f) = Some f
found_in (heard.Answer x) = None

-- An event was applied: it leads from the one world to the other, and found this.
pub record IsApplied (e : Event) (old new : Running) (found : Option Found) : Type 0 where
  pub heard : Heard
  pub step : step (setup_of old.scenario) old.world e ≡ Some (new.world, heard)
  pub found_is : found ≡ found_in heard
  pub scenario : new.scenario ≡ old.scenario
  pub begun : new.begun ≡ old.begun
