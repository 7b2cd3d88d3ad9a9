-- This project's own: that generated scenarios are those of their texts, and so laid.
use Rattle.std.specs.Prelude.{ℕ, ◌≤◌}
use Rattle.scen_text.specs.Scenario.{Stands}
use Rattle.scen_text.specs.ScenarioText.{scenario_text}
use Rattle.scen_gen.specs.Generated.{generated}
use Rattle.scen_laid.specs.Laid.{IsLaid}
use Rattle.scen_laid.specs.Runs.{HasSoundRuns}

-- The printed text of a generated scenario of at most 100,000 sends stands for it.
abbrev pub GeneratedStands : Type 0
GeneratedStands = (n : ℕ) → n ≤ 100000 → Stands (scenario_text (generated n)) (generated n)

-- So it is laid.
abbrev pub GeneratedIsLaid : Type 0
GeneratedIsLaid = (n : ℕ) → n ≤ 100000 → IsLaid (generated n)

-- And its runs are sound.
abbrev pub RunsOfGenerated : Type 0
RunsOfGenerated = (n : ℕ) → n ≤ 100000 → HasSoundRuns (generated n)
