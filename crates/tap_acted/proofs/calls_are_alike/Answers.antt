use Rattle.tap_acted.proofs.Alike as alike
use Rattle.tap_acted.proofs.calls_are_alike.Goals as goal

pub returns : goal.returns
returns c = alike.call_alike
