-- This project's own: what scenarios and their texts have to do with one another.
use Rattle.std.specs.Prelude.{◌≡◌, ℕ, ◌≤◌, length, List}
use Rattle.scen_words.specs.declared.limits.TheConstants.{MAX_BYTES}
use Rattle.scen_text.specs.declared.scenario.Scenario.{Scenario}
use Rattle.scen_text.specs.Scenario.{Stands}
use Rattle.scen_text.specs.ScenarioText.{scenario_text}

-- a text stands for one scenario only
abbrev pub OneScenario : Type 0
OneScenario = (bytes : List ℕ) (s t : Scenario) → Stands bytes s → Stands bytes t → s ≡ t

-- the printed text of a scenario that some text stands for stands for it, where it isn't too long
abbrev pub PrintedStands : Type 0
PrintedStands = (bytes : List ℕ) (s : Scenario) → Stands bytes s → length (scenario_text s) ≤ MAX_BYTES
    → Stands (scenario_text s) s
