use Rattle.tap_steer.proofs.FileLaws as lemmas
use Rattle.tap_steer.proofs.laws.files_are_in_use.Goals as goal

pub returns : goal.returns
returns c = lemmas.files_are_in_use
