use Rattle.tap_grows.proofs.Events as events
use Rattle.tap_grows.proofs.beginnings_grow.Goals as goal

pub returns : goal.returns
returns c = events.beginning_grows
