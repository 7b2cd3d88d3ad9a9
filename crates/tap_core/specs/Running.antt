-- This project's own: a scenario that is being run, and what always holds of it.
use Rattle.std.specs.Prelude.{◌≡◌, ◌⊎◌, ℕ, suc, List, [], slice_get, Option, Some, None}
use Rattle.std.specs.List.{AllByRecursion}
use Rattle.std.specs.Option.{option_map_or}
use Rattle.scen_text.specs.declared.scenario.Line.{Line}
use Rattle.scen_text.specs.declared.scenario.Phase.{Phase}
use Rattle.scen_text.specs.declared.scenario.Scenario.{Scenario}
use Rattle.scen_laid.specs.Laid.{IsLaid}
use Rattle.tap_ground.specs.Options.{◌>>=◌}
use Rattle.tap_guests.specs.Side.{Side}
use Rattle.tap_sound.specs.Worlds.{IsAfter, IsInPhase}
use Rattle.tap_world.specs.Runs.{opening}
use Rattle.tap_world.specs.Setup.{Numbered, setup_of}
use Rattle.tap_world.specs.declared.told.Said.{Said}
use Rattle.tap_world.specs.World.{World, current}
use Rattle.core_actors.specs.Acting.{Acting, HasPlaces, actors_of, script_of}
use Rattle.core_shared.specs.Asking.{Asking}
use Rattle.core_shared.specs.Held.{IsHeld}
use Rattle.core_shared.specs.Suiting.{Suits}
use Rattle.core_shared.specs.Worlds.{world_in}
use Rattle.core_shared.specs.declared.doing.Doing.TheVariants.{Begun}
use Rattle.core_shared.specs.declared.shared.Shared.{Shared}

-- a scenario, how many of its phases have begun, and the world that its run has come to
pub record Running : Type 0 where
  pub scenario : Scenario
  pub begun : ℕ
  pub world : World

-- The run's world is the one that it opens with; or one of the phase that began last, of which it has the number.
pub record IsInLast (s : Scenario) (begun : ℕ) (w : World) : Type 0 where
  pub ended : ℕ
  pub is_last : begun ≡ suc ended
  pub number : w.phase ≡ ended
  pub before : World
  pub is_before : IsAfter s ended before
  pub in_phase : IsInPhase s ended before w

abbrev pub Reaches : Scenario → ℕ → World → Type 0
Reaches s begun w = ((begun ≡ 0) × (w ≡ opening (setup_of s))) ⊎ IsInLast s begun w

-- the lines of a phase
abbrev pub lines_in : Scenario → ℕ → List Line
lines_in s phase = option_map_or (λ (p : Phase). p.lines) (slice_get s.phases phase) []

-- the world of what is shared, of the actors of a phase, and of answers
abbrev pub world_of : Scenario → Shared → List Acting → List Said → World
world_of s x actors said = world_in x (actors_of (lines_in s x.phase) x.vhosts actors) said

-- an actor's command, as it is asked for
abbrev pub asking_for : Scenario → ℕ → Acting → Numbered → Asking
asking_for s actor a c =
    record { scenario = s; actor = actor; number = c.number; command = c.command; seen = a.seen }

-- what an actor's first command carries is its own; an actor without one carries nothing
abbrev pub SuitsFirst : Scenario → List (Option Side) → ℕ → Acting → Option Numbered → Type 0
SuitsFirst s vhosts actor a (Some c) = Suits vhosts (asking_for s actor a c) a.doing
SuitsFirst s vhosts actor a None = a.doing ≡ Begun

abbrev pub SuitsItsCommand : Scenario → Shared → ℕ → Acting → Type 0
SuitsItsCommand s x actor a = SuitsFirst s x.vhosts actor a (current (script_of (lines_in s x.phase) a.script))

-- The scenario is laid, and a run of it reaches the world. What always holds of what actors share does; each command of
-- an actor is a line of the phase, and what it carries is its own.
pub record IsRunning (s : Scenario) (begun : ℕ) (x : Shared) (actors : List Acting) (said : List Said) : Type 0 where
  pub laid : IsLaid s
  pub reached : Reaches s begun (world_of s x actors said)
  pub held : IsHeld (setup_of s) x
  pub places : AllByRecursion (HasPlaces (lines_in s x.phase)) actors
  pub suits : (actor : ℕ) (a : Acting) → slice_get actors actor ≡ Some a → SuitsItsCommand s x actor a

-- ---- an actor's first command

-- its line
abbrev pub current_line : Scenario → ℕ → List Acting → ℕ → Option Line
current_line s phase actors actor = do
  a ← slice_get actors actor
  place ← slice_get a.script 0
  slice_get (lines_in s phase) place
