use Rattle.tap_grows.proofs.Coming as coming
use Rattle.tap_grows.proofs.Events as events
use Rattle.tap_grows.proofs.coming_grows.Goals as goal

pub returns-clause-grows : goal.returns-clause-grows
returns-clause-grows c = coming.coming_grows

pub returns-clause-ended : goal.returns-clause-ended
returns-clause-ended c = events.all_is_published
