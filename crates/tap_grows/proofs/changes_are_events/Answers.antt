use Rattle.tap_grows.proofs.Leads as leads
use Rattle.tap_grows.proofs.changes_are_events.Goals as goal

pub returns-clause-passed : goal.returns-clause-passed
returns-clause-passed c = leads.passed_is_allowed

pub returns-clause-changes : goal.returns-clause-changes
returns-clause-changes c = leads.changes_are_events
