use Rattle.tap_acts.proofs.TxSteps as law
use Rattle.tap_acts.proofs.sends_are_printed.Goals as goal

pub returns : goal.returns
returns c = law.sends_are_printed
