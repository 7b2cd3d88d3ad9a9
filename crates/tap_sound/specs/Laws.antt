-- This project's own: what is true of every run.
use Rattle.std.specs.Prelude.{◌≡◌, ℕ, ◌<◌, List, [], ◌∷◌, slice_get, Some}
use Rattle.scen_text.specs.declared.scenario.Phase.{Phase}
use Rattle.scen_text.specs.declared.scenario.Scenario.{Scenario}
use Rattle.tap_world.specs.declared.event.Event.{Event}
use Rattle.tap_world.specs.Commands.{AreScripts, AreScriptsSoFar, events_of}
use Rattle.tap_world.specs.Setup.{Setup, script_in}
use Rattle.tap_world.specs.World.{Actor, World}
use Rattle.tap_world.specs.World.Doing.{Begun}
use Rattle.tap_world.specs.Runs.{IsOrder, IsRun, begins, run}

-- in each phase the events of each actor are the scripts of its commands, one after another
abbrev pub AreScripted : List Phase → List (List Event) → Type 0
AreScripted [] [] = Unit {0}
AreScripted (p ∷ ps) (es ∷ more) =
    ((actor : ℕ) → actor < p.actors → AreScripts (script_in p actor) (events_of actor es)) × AreScripted ps more
AreScripted ps more = ⊥

-- In a run each actor's events are the scripts of its commands.
abbrev pub EventsAreScripts : Type 0
EventsAreScripts =
    (s : Scenario) (events : List (List Event)) (w : World) → IsRun s events w → AreScripted s.phases events

-- At any time of a phase they are scripts of commands that have ended, and the beginning of one of the command under
-- way.
abbrev pub EventsBeginScripts : Type 0
EventsBeginScripts =
    (s : Setup) (number : ℕ) (p : Phase) (es : List Event) (w v : World) → run s es (begins number p w) ≡ Some v
    → (actor : ℕ) → actor < p.actors → AreScriptsSoFar (script_in p actor) (events_of actor es)

-- The run that a seed picks is a run.
abbrev pub OrderIsRun : Type 0
OrderIsRun =
    (s : Scenario) (seed : ℕ) (events : List (List Event)) (w : World) → IsOrder s seed events w → IsRun s events w

-- After a run no actor has a command left, and none is under way.
abbrev pub AllIsDone : Type 0
AllIsDone =
    (s : Scenario) (events : List (List Event)) (w : World) → IsRun s events w
    → (actor : ℕ) (a : Actor) → slice_get w.actors actor ≡ Some a → (a.script ≡ []) × (a.doing ≡ Begun)
