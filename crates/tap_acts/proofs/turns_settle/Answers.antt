use Rattle.tap_acts.proofs.Settled as law
use Rattle.tap_acts.proofs.turns_settle.Goals as goal

pub returns : goal.returns
returns c = law.turns_settle
