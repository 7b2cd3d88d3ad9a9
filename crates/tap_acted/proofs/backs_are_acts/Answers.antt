use Rattle.tap_acted.proofs.Backing as backing
use Rattle.tap_acted.proofs.backs_are_acts.Goals as goal

pub returns : goal.returns
returns c = backing.back_acts
