use Rattle.tap_acted.proofs.Callings as callings
use Rattle.tap_acted.proofs.calls_are_acts.Goals as goal

pub returns : goal.returns
returns c = callings.call_acts
