use Rattle.tap_steer.proofs.FileLaws as lemmas
use Rattle.tap_steer.proofs.laws.epochs_never_fall.Goals as goal

pub returns : goal.returns
returns c = lemmas.epochs_never_fall
