use Rattle.tap_steady.proofs.Told as laws
use Rattle.tap_steady.proofs.told_is_kept.Goals as goal

pub returns : goal.returns
returns c = laws.told_is_kept
