use Rattle.tap_projected.proofs.Files as law
use Rattle.tap_projected.proofs.files_are_projected.Goals as goal

pub returns : goal.returns
returns c = λ s events w laid is. law.files_are_told s w
