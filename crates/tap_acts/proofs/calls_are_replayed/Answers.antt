use Rattle.tap_acts.proofs.Runs as law
use Rattle.tap_acts.proofs.calls_are_replayed.Goals as goal

pub returns : goal.returns
returns c = law.calls_are_replayed
