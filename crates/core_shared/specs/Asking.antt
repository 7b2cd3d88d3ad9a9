-- This project's own: an actor's command, as it is asked for.
use Rattle.std.specs.Prelude.{◌≡◌, ℕ, slice_get, Some}
use Rattle.scen_text.specs.declared.scenario.Line.{Line}
use Rattle.scen_text.specs.declared.scenario.Phase.{Phase}
use Rattle.scen_text.specs.declared.scenario.Scenario.{Scenario}
use Rattle.scen_words.specs.declared.command.Command.{Command}
use Rattle.tap_world.specs.Setup.{Setup, setup_of}

-- a command of an actor of a scenario, with its number, and the newest version that the actor has seen
pub record Asking : Type 0 where
  pub scenario : Scenario
  pub actor : ℕ
  pub number : ℕ
  pub command : Command
  pub seen : ℕ

abbrev pub setup : Asking → Setup
setup a = setup_of a.scenario

-- It is a command of that actor's in a phase of the scenario.
pub record IsAsked (phase : ℕ) (a : Asking) : Type 0 where
  pub part : Phase
  pub is_part : slice_get a.scenario.phases phase ≡ Some part
  pub place : ℕ
  pub line : Line
  pub is_line : slice_get part.lines place ≡ Some line
  pub actor : line.actor ≡ a.actor
  pub number : line.number ≡ a.number
  pub command : line.command ≡ a.command
