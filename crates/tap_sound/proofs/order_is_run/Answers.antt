use Rattle.tap_sound.proofs.Whole as whole
use Rattle.tap_sound.proofs.order_is_run.Goals as goal

pub returns : goal.returns
returns c = whole.order_is_run
