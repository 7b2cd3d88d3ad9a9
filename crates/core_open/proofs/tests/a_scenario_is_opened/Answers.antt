use Rattle.core_open.proofs.tests.a_scenario_is_opened.Goals as goal

pub open-requires : goal.open-requires
open-requires g c = c.read_is_laid.ensures _ _ c.in_ok-scenario.ensures.found
