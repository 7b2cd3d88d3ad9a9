use Rattle.tap_steady.proofs.Sized as laws
use Rattle.tap_steady.proofs.cuts_are_kept.Goals as goal

pub returns : goal.returns
returns c = laws.cuts_are_kept
