-- This project's own: that the queue table of a steady world is sound.
use Rattle.scen_text.specs.declared.scenario.Scenario.{Scenario}
use Rattle.scen_laid.specs.Laid.{IsLaid}
use Rattle.tap_steer.specs.Sound as steer
use Rattle.tap_world.specs.Setup.{setup_of}
use Rattle.tap_world.specs.Steady.{AreOperations}
use Rattle.tap_world.specs.World.{World, table}

-- The table is sound that the operations of a laid scenario's commands make, each of which was lawful.
abbrev pub TablesAreSound : Type 0
TablesAreSound =
    (s : Scenario) (w : World) → IsLaid s → AreOperations (setup_of s) w → steer.IsSound (table (setup_of s) w)
