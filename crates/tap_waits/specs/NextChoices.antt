-- This project's own: what actors do next, and which events a run can choose from, as the table of who waits tells it.
use Rattle.std.specs.Prelude.{◌≡◌, ℕ, false, true, if◌then◌else◌, [], slice_get, Option, Some, None}
use Rattle.std.specs.Option.{option_map_or}
use Rattle.scen_text.specs.declared.scenario.Scenario.{Scenario}
use Rattle.tap_world.specs.declared.event.Event.{Event}
use Rattle.tap_world.specs.Setup.{Numbered, Setup, setup_of}
use Rattle.tap_world.specs.World.{Actor, World, current}
use Rattle.tap_world.specs.Scripts.{next_kind}
use Rattle.tap_world.specs.Runs as runs
use Rattle.tap_world.specs.Runs.{Next, choices}
use Rattle.tap_world.specs.Runs.Next.{Does, Ended, Waits}
use Rattle.tap_world.specs.Sound.{IsSound}
use Rattle.tap_world.specs.Steady.{IsSteady}
use Rattle.tap_world.specs.Waiting.{may_go}
use Rattle.tap_sound.specs.Worlds.{IsWorldOf}
use Rattle.scen_laid.specs.Laid.{IsLaid}
use Rattle.tap_waits.specs.Next.{HasNewNames}

-- what an actor does next, by the table of who waits: no event is tried
abbrev pub does_by : World → ℕ → Actor → Option Numbered → Next
does_by w i a None = Ended
does_by w i a (Some c) =
    option_map_or
    (λ kind. if may_go w i a c.command then Does (record { actor = i; command = c.number; kind = kind }) else Waits)
    (next_kind w a.doing c.command) Waits

abbrev pub next_by : World → ℕ → Next
next_by w i = option_map_or (λ (a : Actor). does_by w i a (current a.script)) (slice_get w.actors i) Ended

-- an event is the next one of an actor that may go on
pub record IsNextOf (w : World) (e : Event) : Type 0 where
  pub actor : Actor
  pub command : Numbered
  pub is_actor : slice_get w.actors e.actor ≡ Some actor
  pub is_command : current actor.script ≡ Some command
  pub number : command.number ≡ e.command
  pub kind : next_kind w actor.doing command.command ≡ Some e.kind
  pub may : may_go w e.actor actor command.command ≡ true

-- What an actor does next is told by the table. The events that a run can choose from are the next ones of those actors
-- that may go on, each of them and no other; there is none to choose only if no actor may go on.
pub record HasChoices (s : Setup) (w : World) : Type 0 where
  pub next : (i : ℕ) → runs.next s w i ≡ next_by w i
  pub each : (k : ℕ) (e : Event) → slice_get (choices s w) k ≡ Some e → IsNextOf w e
  pub every : (e : Event) → IsNextOf w e → (k : ℕ) × (slice_get (choices s w) k ≡ Some e)
  pub none : choices s w ≡ [] → (i : ℕ) (a : Actor) (c : Numbered) → slice_get w.actors i ≡ Some a
      → current a.script ≡ Some c → may_go w i a c.command ≡ false

-- So it is in each sound and steady world whose names are new.
abbrev pub ChoicesAreNext : Type 0
ChoicesAreNext = (s : Setup) (w : World) → HasNewNames s w → IsSound s w → IsSteady s w → HasChoices s w

-- And in each steady world that a run of a laid scenario reaches.
abbrev pub ChoicesAreNextInRuns : Type 0
ChoicesAreNextInRuns =
    (s : Scenario) (w : World) → IsLaid s → IsWorldOf s w → IsSteady (setup_of s) w → HasChoices (setup_of s) w
