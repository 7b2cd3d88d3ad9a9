use Rattle.tap_steady.proofs.There as there
use Rattle.tap_steady.proofs.what_is_there_stays.Goals as goal

pub returns : goal.returns
returns c = there.what_is_there_stays
