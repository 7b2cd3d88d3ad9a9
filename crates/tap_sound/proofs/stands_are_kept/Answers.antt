use Rattle.tap_sound.proofs.Stand as stand
use Rattle.tap_sound.proofs.stands_are_kept.Goals as goal

pub returns : goal.returns
returns c = stand.stands_are_kept
