-- This project's own: that every world of a run of a laid scenario is steady.
use Rattle.std.specs.Prelude.{List}
use Rattle.scen_text.specs.declared.scenario.Scenario.{Scenario}
use Rattle.scen_laid.specs.Laid.{IsLaid}
use Rattle.tap_sound.specs.Worlds.{IsWorldOf}
use Rattle.tap_world.specs.declared.event.Event.{Event}
use Rattle.tap_world.specs.Runs.{IsRun}
use Rattle.tap_world.specs.Setup.{setup_of}
use Rattle.tap_world.specs.Steady.{IsSteady}
use Rattle.tap_world.specs.World.{World}

-- Each world that a run of a laid scenario reaches is steady, between phases and in them.
abbrev pub ReachedIsSteady : Type 0
ReachedIsSteady = (s : Scenario) (w : World) → IsLaid s → IsWorldOf s w → IsSteady (setup_of s) w

-- And so is the one that it ends in.
abbrev pub RunIsSteady : Type 0
RunIsSteady =
    (s : Scenario) (events : List (List Event)) (w : World) → IsLaid s → IsRun s events w → IsSteady (setup_of s) w
