use Rattle.tap_projected.proofs.Guests as law
use Rattle.tap_projected.proofs.rings_are_declared.Goals as goal

pub returns : goal.returns
returns c = λ s events w laid is. law.rings_are_declared s w (c.runs_are_steady.ensures.ended s events w laid is).there.vhosts
