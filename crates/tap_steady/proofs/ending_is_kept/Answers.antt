use Rattle.tap_steady.proofs.Ended as laws
use Rattle.tap_steady.proofs.ending_is_kept.Goals as goal

pub returns : goal.returns
returns c = laws.ending_is_kept
