use Rattle.tap_steady.proofs.Lawful as lawful
use Rattle.tap_steady.proofs.what_is_to_be_published_stays_lawful.Goals as goal

pub returns : goal.returns
returns c = lawful.what_is_to_be_published_stays_lawful
