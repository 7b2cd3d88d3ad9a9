-- This project's own: what every scenario that some text stands for lays down for its runs.
use Rattle.std.specs.Prelude.{ℕ, List}
use Rattle.std.specs.List.{AllByRecursion}
use Rattle.scen_text.specs.declared.scenario.Scenario.{Scenario}
use Rattle.scen_text.specs.Scenario.{Stands}
use Rattle.tap_world.specs.Setup.{setup_of}
use Rattle.tap_sound.specs.Fresh.{ArePhasesNumbered}
use Rattle.tap_sound.specs.Reached.{HasPlaces}
use Rattle.tap_sound.specs.SoundRuns.{HasGuests}
use Rattle.scen_laid.specs.Declared.{AreFew, HasCapacities, HasFlows, HasMemories, HasPrograms, IsInRange}
use Rattle.scen_laid.specs.Phases.{AreNames, IsPhase, IsWithinLimits}

-- Declarations are in range; first places are of 2 ^ 40, and files have 1 to 1,024 places; the guest of each vhost has a
-- region, and the regions of each guest make a memory; no program has a fault; each name has flows; names are good and
-- no two the same; commands are numbered from 0 on over all phases; each phase is one; and there are not too many.
pub record IsLaid (s : Scenario) : Type 0 where
  pub declarations : AllByRecursion IsInRange s.declarations
  pub places : HasPlaces (setup_of s)
  pub capacities : HasCapacities (setup_of s)
  pub guests : HasGuests (setup_of s)
  pub memories : HasMemories (setup_of s)
  pub programs : HasPrograms (setup_of s)
  pub flows : HasFlows (setup_of s)
  pub few : AreFew (setup_of s)
  pub names : AreNames s.names
  pub numbers : ArePhasesNumbered 0 s.phases
  pub phases : AllByRecursion (IsPhase (setup_of s)) s.phases
  pub limits : IsWithinLimits s.phases

-- Each scenario that some text stands for is laid.
abbrev pub ReadIsLaid : Type 0
ReadIsLaid = (bytes : List ℕ) (s : Scenario) → Stands bytes s → IsLaid s
