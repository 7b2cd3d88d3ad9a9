use Rattle.tap_sound.proofs.Shut as shut
use Rattle.tap_sound.proofs.shut_is_kept.Goals as goal

pub returns : goal.returns
returns c = shut.shut_is_kept
