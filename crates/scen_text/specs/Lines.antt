-- This project's own: what a command does to the place and the lines of the phase that is open.
use Rattle.std.specs.Prelude.{ℕ, List, [], ◌∷◌, if◌then◌else◌}
use Rattle.scen_words.specs.declared.command.Command.{Command}
use Rattle.scen_text.specs.declared.place.Place.{Place}
use Rattle.scen_text.specs.declared.place.Place.TheVariants.{Outside, Run, Block}
use Rattle.scen_text.specs.declared.scenario.Line.{Line}
use Rattle.scen_text.specs.declared.scenario.Phase.{Phase}
use Rattle.scen_text.specs.Before.{phase_of}
use Rattle.scen_words.specs.Commands.{is_turn}

-- a command outside a block stands in a run
abbrev pub place_after : Place → Place
place_after Outside = Run
place_after place = place

-- the lines before a line in its phase
abbrev pub lines_before : Place → List Line → List Line
lines_before Outside lines = []
lines_before place lines = lines

-- how many turns a command is
abbrev pub turns_of : Command → ℕ
turns_of c = if is_turn c then 1 else 0

-- the phase that is open, with its lines so far
abbrev pub open_phase : Place → List Line → List Phase
open_phase Outside lines = []
open_phase Run lines = phase_of 1 lines ∷ []
open_phase (Block actors) lines = phase_of actors lines ∷ []
