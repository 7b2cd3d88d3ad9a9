use Rattle.tap_sound.proofs.Held as held
use Rattle.tap_sound.proofs.holders_are_kept.Goals as goal

pub returns : goal.returns
returns c = held.holders_are_kept
