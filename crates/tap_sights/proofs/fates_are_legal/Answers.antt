use Rattle.tap_sights.proofs.FatesPackets as law
use Rattle.tap_sights.proofs.fates_are_legal.Goals as goal

pub returns : goal.returns
returns c = law.fates_are_legal
