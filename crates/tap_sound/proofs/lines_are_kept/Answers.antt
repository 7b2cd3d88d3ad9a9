use Rattle.tap_sound.proofs.Kept as kept
use Rattle.tap_sound.proofs.lines_are_kept.Goals as goal

pub returns-clause-epochs : goal.returns-clause-epochs
returns-clause-epochs c = kept.epochs_are_kept

pub returns-clause-parts : goal.returns-clause-parts
returns-clause-parts c = kept.lines_are_kept
