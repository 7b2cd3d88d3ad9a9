use Rattle.tap_acts.proofs.Legal as law
use Rattle.tap_acts.proofs.guests_are_legal.Goals as goal

pub returns : goal.returns
returns c = law.guests_are_legal
