use Rattle.tap_steer.proofs.FileLaws as lemmas
use Rattle.tap_steer.proofs.laws.numbers_are_left.Goals as goal

pub returns : goal.returns
returns c = lemmas.numbers_are_left
