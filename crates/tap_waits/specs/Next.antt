-- This project's own: that the table of who waits is right. In a sound and steady world each actor with a command has a
-- next event, which is allowed exactly where the table says that the actor may go on.
use Rattle.std.specs.Prelude.{◌≡◌, ℕ, slice_get, Some}
use Rattle.scen_text.specs.declared.scenario.Scenario.{Scenario}
use Rattle.tap_world.specs.declared.event.Event.{Event}
use Rattle.tap_world.specs.declared.event.EventKind.{EventKind}
use Rattle.tap_world.specs.Setup.{Numbered, Setup, setup_of}
use Rattle.tap_world.specs.World.{Actor, World, current}
use Rattle.tap_world.specs.Effect.{Effect}
use Rattle.tap_world.specs.Scripts.{next_kind}
use Rattle.tap_world.specs.Step.{effect, is_allowed, row_of}
use Rattle.tap_world.specs.Sound.{IsSound}
use Rattle.tap_world.specs.Steady.{IsSteady}
use Rattle.tap_world.specs.Waiting.{may_go}
use Rattle.tap_sound.specs.Worlds.{IsWorldOf}
use Rattle.scen_laid.specs.Laid.{IsLaid}

-- no event is refused for its names
abbrev pub HasNewNames : Setup → World → Type 0
HasNewNames s w = (e : Event) (r : Effect) → row_of s w e ≡ Some r → effect s w e ≡ Some r

-- an actor's command has a next event, which is allowed exactly where the actor may go on
pub record HasNext (s : Setup) (w : World) (i : ℕ) (a : Actor) (c : Numbered) : Type 0 where
  pub kind : EventKind
  pub is_next : next_kind w a.doing c.command ≡ Some kind
  pub allowed :
      is_allowed s w (record { actor = i; command = c.number; kind = kind }) ≡ may_go w i a c.command

-- each command under way, or about to begin, has one
abbrev pub EachHasNext : Setup → World → Type 0
EachHasNext s w =
    (i : ℕ) (a : Actor) (c : Numbered) → slice_get w.actors i ≡ Some a → current a.script ≡ Some c → HasNext s w i a c

-- So it is in each sound and steady world whose names are new.
abbrev pub NextIsAllowed : Type 0
NextIsAllowed = (s : Setup) (w : World) → HasNewNames s w → IsSound s w → IsSteady s w → EachHasNext s w

-- And in each steady world that a run of a laid scenario reaches.
abbrev pub NextIsAllowedInRuns : Type 0
NextIsAllowedInRuns =
    (s : Scenario) (w : World) → IsLaid s → IsWorldOf s w → IsSteady (setup_of s) w → EachHasNext (setup_of s) w
