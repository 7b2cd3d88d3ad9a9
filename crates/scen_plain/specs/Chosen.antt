-- This project's own: what a number makes of a scenario that is being run.
use Rattle.std.specs.Prelude.{◌≡◌, ℕ, true, List}
use Rattle.tap_core.specs.Running.{Running}
use Rattle.tap_world.specs.declared.event.Event.{Event}
use Rattle.tap_world.specs.Runs.{IsChosen, has_ended}
use Rattle.tap_world.specs.Setup.{setup_of}

-- The run went on by events that x picked, each after the last, until there was none to pick. Then the number is y, and
-- every command of the phase has ended.
pub record WentOn (x : ℕ) (old : Running) (y : ℕ) (new : Running) : Type 0 where
  pub events : List Event
  pub chosen : IsChosen (setup_of old.scenario) x events old.world y new.world
  pub ended : has_ended new.world ≡ true
  pub scenario : new.scenario ≡ old.scenario
  pub begun : new.begun ≡ old.begun
