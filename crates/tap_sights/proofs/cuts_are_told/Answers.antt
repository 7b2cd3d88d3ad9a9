use Rattle.tap_sights.proofs.Cuts as law
use Rattle.tap_sights.proofs.cuts_are_told.Goals as goal

pub returns : goal.returns
returns c = law.cuts_are_told
