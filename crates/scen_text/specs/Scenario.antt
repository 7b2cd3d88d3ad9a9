-- This project's own: the scenario that a text stands for.
use Rattle.std.specs.Prelude.{◌≡◌, ℕ, List, Ok, Some}
use Rattle.tap_ground.specs.declared.error.OrMemory.{OrMemory}
use Rattle.tap_ground.specs.declared.error.OrMemory.TheVariants as error
use Rattle.scen_text.specs.declared.fault.ScenFault.{ScenFault}
use Rattle.scen_text.specs.declared.scenario.Scenario.{Scenario}
use Rattle.scen_text.specs.Before.{declarations_of, names_of, phases_of}
use Rattle.scen_text.specs.Refusals.{Said, first_refusal, said_of}

-- what the lines say: declarations in their order, names by first appearance, and phases
unfoldable pub scenario_of : Said → Scenario
scenario_of said = record {
  version = said.version;
  declarations = declarations_of said.sentences;
  names = names_of said.sentences;
  phases = phases_of said.sentences;
}

-- the text has no refusal, and the scenario is what its lines say
abbrev pub Stands : List ℕ → Scenario → Type 0
Stands bytes s = (said : Said) × (said_of bytes ≡ Ok said) × (s ≡ scenario_of said)

-- the text is refused, and this is its first refusal
abbrev pub IsRefusal : List ℕ → ScenFault → Type 0
IsRefusal bytes fault = first_refusal bytes ≡ Some fault

-- what an error says of the bytes; want of memory says nothing
abbrev pub IsError : List ℕ → OrMemory ScenFault → Type 0
IsError bytes (error.Fault fault) = IsRefusal bytes fault
IsError bytes error.NoMemory = Unit {0}
