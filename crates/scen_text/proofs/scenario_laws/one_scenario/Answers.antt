use Rattle.scen_text.proofs.OneScenario.{one_scenario}
use Rattle.scen_text.proofs.scenario_laws.one_scenario.Goals as goal

pub returns : goal.returns
returns c = one_scenario
