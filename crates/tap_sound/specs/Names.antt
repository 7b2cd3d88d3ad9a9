-- This project's own: that names stand once, in every world that a run reaches.
use Rattle.std.specs.Prelude.{List}
use Rattle.scen_text.specs.declared.scenario.Scenario.{Scenario}
use Rattle.tap_world.specs.declared.event.Event.{Event}
use Rattle.tap_world.specs.World.{World}
use Rattle.tap_world.specs.Runs.{IsRun}
use Rattle.tap_world.specs.SoundNames.{NamesStandOnce}
use Rattle.tap_sound.specs.Keeps.{Keeps}
use Rattle.tap_sound.specs.Worlds.{IsWorldOf}

-- Every event keeps that each name stands at most once, and that each accepted name stands, but between the event that
-- accepts it and the event that drops, places or hosts it.
abbrev pub NamesAreKept : Type 0
NamesAreKept = Keeps (λ s w. NamesStandOnce w)

-- It holds in each world that a run reaches, and in the one that it ends in.
abbrev pub NamesStandInRuns : Type 0
NamesStandInRuns = (s : Scenario) (w : World) → IsWorldOf s w → NamesStandOnce w

abbrev pub NamesStandAfterRuns : Type 0
NamesStandAfterRuns = (s : Scenario) (events : List (List Event)) (w : World) → IsRun s events w → NamesStandOnce w
