use Rattle.tap_guests.proofs.Unserved.{callers_meet_none, free_is_unserved}
use Rattle.tap_guests.proofs.laws.callers_meet_no_worker.Goals as goal

pub returns-clause-free : goal.returns-clause-free
returns-clause-free c = free_is_unserved

pub returns-clause-callers : goal.returns-clause-callers
returns-clause-callers c = callers_meet_none
