use Rattle.tap_steer.proofs.LawLemmas as lemmas
use Rattle.tap_steer.proofs.laws.names_stay.Goals as goal

pub returns : goal.returns
returns c = lemmas.names_stay
