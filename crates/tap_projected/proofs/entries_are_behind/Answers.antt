use Rattle.tap_projected.proofs.Behind as law
use Rattle.tap_projected.proofs.entries_are_behind.Goals as goal

pub returns : goal.returns
returns c = λ s events w laid is. law.entries_are_behind s w ((c.laid_runs_are_sound.ensures s laid).ended events w is)
