-- This project's own: that a frame in hand is its owner's, in every world that a run reaches.
use Rattle.scen_text.specs.declared.scenario.Scenario.{Scenario}
use Rattle.tap_world.specs.World.{World}
use Rattle.tap_world.specs.Each.{EachActor, EachFile}
use Rattle.tap_world.specs.SoundActors.{CanBe}
use Rattle.tap_world.specs.Sound.{HandIsOwners, InThreeParts}
use Rattle.tap_sound.specs.Keeps.{KeepsWhere}
use Rattle.tap_sound.specs.Worlds.{IsWorldOf}

-- Where each command has come as far as it can and lines are in their three parts, every event keeps that a frame in
-- hand is the batch's front, that its worker owns the file, and that this worker's receive turn is under way with this
-- very frame in hand.
abbrev pub HandIsKept : Type 0
HandIsKept =
    KeepsWhere (λ s w. EachActor w (λ actor a. CanBe a) × EachFile w (λ file f. InThreeParts f.line))
    (λ s w. EachFile w (HandIsOwners w))

-- It holds in each world that a run reaches.
abbrev pub HandIsOwnersInRuns : Type 0
HandIsOwnersInRuns = (s : Scenario) (w : World) → IsWorldOf s w → EachFile w (HandIsOwners w)
