use Rattle.tap_sound.proofs.Whole as whole
use Rattle.tap_sound.proofs.all_is_done.Goals as goal

pub returns : goal.returns
returns c = whole.all_is_done
