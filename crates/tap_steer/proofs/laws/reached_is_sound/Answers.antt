use Rattle.tap_steer.proofs.LawLemmas as lemmas
use Rattle.tap_steer.proofs.laws.reached_is_sound.Goals as goal

pub returns : goal.returns
returns c = lemmas.reached_is_sound
