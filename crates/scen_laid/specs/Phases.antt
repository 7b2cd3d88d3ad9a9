-- This project's own: what the names, the commands and the phases of a scenario that some text stands for are.
use Rattle.std.specs.Prelude.{◌≡◌, ℕ, ◌<◌, ◌≤◌, true, List, length, map, filter, flat_map, slice_get, Some}
use Rattle.std.specs.List.{AllByRecursion}
use Rattle.text_fields.specs.Forms.{FitForm}
use Rattle.text_fields.specs.Names.{is_name}
use Rattle.scen_words.specs.declared.command.Command.{Command}
use Rattle.scen_words.specs.declared.limits.TheConstants.{MAX_BYTES, MAX_COMMANDS, MAX_NAMES, MAX_TURNS}
use Rattle.scen_words.specs.Commands.{command_values, command_word, is_turn}
use Rattle.scen_words.specs.Words.{command_form}
use Rattle.scen_text.specs.declared.scenario.Line.{Line}
use Rattle.scen_text.specs.declared.scenario.Phase.{Phase}
use Rattle.scen_text.specs.declared.scenario.Script.{Script}
use Rattle.tap_world.specs.Setup.{NamesDeclared, Numbered, Setup, script_in}

-- ---- names

-- at most 64 names, each of which a device may have, and no two of them the same
pub record AreNames (names : List (List ℕ)) : Type 0 where
  pub few : length names ≤ MAX_NAMES
  pub good : AllByRecursion (λ (name : List ℕ). is_name name ≡ true) names
  pub once : (i j : ℕ) (name : List ℕ) → slice_get names i ≡ Some name → slice_get names j ≡ Some name → i ≡ j

-- ---- phases

-- a line of a phase of so many actors is one of theirs; its command names what is declared, and its values have the form
-- of its word
pub record IsLine (s : Setup) (actors : ℕ) (l : Line) : Type 0 where
  pub actor : l.actor < actors
  pub declared : NamesDeclared s l.command
  pub form : FitForm (command_form (command_word l.command)) (command_values s.names l.command)

-- the commands of a script
abbrev pub commands_in : Phase → ℕ → List Command
commands_in p actor = map (λ (c : Numbered). c.command) (script_in p actor)

-- a phase of 1 to 16 actors, with a script for each, which is the commands of its lines
pub record IsPhase (s : Setup) (p : Phase) : Type 0 where
  pub some : 1 ≤ p.actors
  pub few : p.actors ≤ 16
  pub scripts : length p.scripts ≡ p.actors
  pub commands :
      (actor : ℕ) (script : Script) → slice_get p.scripts actor ≡ Some script → script.commands ≡ commands_in p actor
  pub lines : AllByRecursion (IsLine s p.actors) p.lines

-- ---- all of them

-- the lines of all phases
abbrev pub lines_of : List Phase → List Line
lines_of ps = flat_map (λ (p : Phase). p.lines) ps

-- those that are turns of workers
abbrev pub turns_of : List Phase → List Line
turns_of ps = filter (λ (l : Line). is_turn l.command) (lines_of ps)

-- no more phases than a text has bytes, and at most 200,000 commands, of which at most 512 are turns
pub record IsWithinLimits (ps : List Phase) : Type 0 where
  pub phases : length ps ≤ MAX_BYTES
  pub commands : length (lines_of ps) ≤ MAX_COMMANDS
  pub turns : length (turns_of ps) ≤ MAX_TURNS
