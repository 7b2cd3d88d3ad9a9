use Rattle.tap_acted.proofs.Turning as turning
use Rattle.tap_acted.proofs.turns_are_acts.Goals as goal

pub returns-clause-off : goal.returns-clause-off
returns-clause-off c = turning.off_acts

pub returns-clause-begins : goal.returns-clause-begins
returns-clause-begins c = turning.turn_begins

pub returns-clause-on : goal.returns-clause-on
returns-clause-on c = turning.turn_goes_on
