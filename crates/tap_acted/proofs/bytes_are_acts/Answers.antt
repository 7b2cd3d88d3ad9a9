use Rattle.tap_acted.proofs.Touches as touches
use Rattle.tap_acted.proofs.bytes_are_acts.Goals as goal

pub returns : goal.returns
returns c = touches.bytes_act
