-- This project's own: actors, with their commands as places among the lines of the phase.
use Rattle.std.specs.Prelude.{◌≡◌, ℕ, ◌<◌, List, [], ◌∷◌, ◌++◌, drop, map, length, slice_get, Option, Some, None}
use Rattle.std.specs.List.{AllByRecursion}
use Rattle.scen_text.specs.declared.scenario.Line.{Line}
use Rattle.scen_text.specs.declared.scenario.Phase.{Phase}
use Rattle.tap_guests.specs.Side.{Side}
use Rattle.tap_world.specs.Runs.{actors_from}
use Rattle.tap_world.specs.Setup.{Numbered}
use Rattle.tap_world.specs.World.{Actor}
use Rattle.core_shared.specs.Coming.{come_of}
use Rattle.core_shared.specs.declared.doing.Doing.{Doing}
use Rattle.core_shared.specs.declared.doing.Doing.TheVariants.{Begun}

-- an actor: the newest version that it has seen, the places of its commands that haven't ended, and how far the first of
-- them has come, with what it carries
pub record Acting : Type 0 where
  pub seen : ℕ
  pub script : List ℕ
  pub doing : Doing

-- one without commands
abbrev pub idle : ℕ → Acting
idle seen = record { seen = seen; script = []; doing = Begun }

-- with one command more, at this place
abbrev pub with_place : ℕ → Acting → Acting
with_place place a = record a { script = a.script ++ place ∷ [] }

-- ---- in the words of the world

abbrev pub numbered : Line → Numbered
numbered l = record { number = l.number; command = l.command }

-- the commands at these places
abbrev pub with_command : Option Line → List Numbered → List Numbered
with_command (Some l) cs = numbered l ∷ cs
with_command None cs = cs

abbrev pub script_of : List Line → List ℕ → List Numbered
script_of lines [] = []
script_of lines (i ∷ is) = with_command (slice_get lines i) (script_of lines is)

-- an actor of the world, and all of them
abbrev pub actor_of : List Line → List (Option Side) → Acting → Actor
actor_of lines vhosts a = record { seen = a.seen; script = script_of lines a.script; doing = come_of vhosts a.doing }

abbrev pub actors_of : List Line → List (Option Side) → List Acting → List Actor
actors_of lines vhosts actors = map (actor_of lines vhosts) actors

-- each place of an actor's commands is one of the lines
abbrev pub HasPlaces : List Line → Acting → Type 0
HasPlaces lines a = AllByRecursion (λ i. i < length lines) a.script

-- ---- as a phase begins

-- an actor that has begun no command
abbrev pub HasBegun : Acting → Type 0
HasBegun a = a.doing ≡ Begun

-- Actors are those of a phase that begins, each of which has seen this version.
pub record AreBeginning (p : Phase) (seen : ℕ) (actors : List Acting) : Type 0 where
  pub world : (vhosts : List (Option Side)) → actors_of p.lines vhosts actors ≡ actors_from p seen 0 p.actors
  pub places : AllByRecursion (HasPlaces p.lines) actors
  pub none : AllByRecursion HasBegun actors

-- ---- an actor's event

-- its command goes on as far as this; or it has ended, and the one behind it begins
abbrev pub going : ℕ → Doing → Acting → Acting
going seen d a = record a { seen = seen; doing = d }

abbrev pub ending : ℕ → Acting → Acting
ending seen a = record { seen = seen; script = drop 1 a.script; doing = Begun }
