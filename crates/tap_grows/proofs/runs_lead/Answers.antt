use Rattle.tap_grows.proofs.Leads as leads
use Rattle.tap_grows.proofs.runs_lead.Goals as goal

pub returns-clause-events : goal.returns-clause-events
returns-clause-events c = leads.events_lead

pub returns-clause-reached : goal.returns-clause-reached
returns-clause-reached c = leads.reached_is_led c.worlds_go_on.ensures.first c.worlds_go_on.ensures.end

pub returns-clause-ended : goal.returns-clause-ended
returns-clause-ended c = leads.run_leads c.worlds_go_on.ensures.first c.worlds_go_on.ensures.end
