use Rattle.tap_sound.proofs.Kept as kept
use Rattle.tap_sound.proofs.versions_are_kept.Goals as goal

pub returns : goal.returns
returns c = kept.versions_are_kept
