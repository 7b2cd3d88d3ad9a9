-- A text stands for one scenario only.
use Rattle.std.proofs.Common.{◌≡◌, Result, Ok, sym, ap, ◌∙◌}
use Rattle.scen_text.specs.declared.fault.ScenFault.{ScenFault}
use Rattle.scen_text.specs.Refusals.{Said}
use Rattle.scen_text.specs.Scenario.{scenario_of}
use Rattle.scen_text.specs.ScenarioLaws.{OneScenario}

same_said : (r : Result Said ScenFault) (a b : Said) → r ≡ Ok a → r ≡ Ok b → a ≡ b
same_said r a b p q = cc

pub one_scenario : OneScenario
one_scenario bytes s t a b = a.2 ∙ ap scenario_of (same_said _ a.0 b.0 a.1 b.1) ∙ sym b.2
