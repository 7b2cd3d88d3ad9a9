use Rattle.tap_steer.proofs.FileLaws as lemmas
use Rattle.tap_steer.proofs.laws.resizes_rise_by_one.Goals as goal

pub returns : goal.returns
returns c = lemmas.resizes_rise_by_one
