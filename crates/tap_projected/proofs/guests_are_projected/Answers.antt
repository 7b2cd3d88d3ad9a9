use Rattle.tap_projected.proofs.Guests as law
use Rattle.tap_projected.proofs.guests_are_projected.Goals as goal

pub returns : goal.returns
returns c = λ s events w laid is. law.guests_are_told s w
