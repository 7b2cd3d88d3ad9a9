use Rattle.tap_grows.proofs.Leads as leads
use Rattle.tap_grows.proofs.runs_grow.Goals as goal

pub returns : goal.returns
returns c = leads.runs_grow c.worlds_go_on.ensures.begin c.worlds_go_on.ensures.reached c.events_grow.ensures
    c.beginnings_grow.ensures
