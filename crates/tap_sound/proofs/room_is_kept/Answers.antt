use Rattle.tap_sound.proofs.Kept as kept
use Rattle.tap_sound.proofs.room_is_kept.Goals as goal

pub returns : goal.returns
returns c = kept.room_is_kept
