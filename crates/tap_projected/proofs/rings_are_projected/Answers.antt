use Rattle.tap_projected.proofs.Guests as law
use Rattle.tap_projected.proofs.rings_are_projected.Goals as goal

pub returns : goal.returns
returns c = λ s events w laid is. law.rings_are_told s w
