use Rattle.tap_projected.proofs.Operations as law
use Rattle.tap_projected.proofs.operations_are_projected.Goals as goal

pub returns : goal.returns
returns c = λ s events w laid is. law.ops_are_told s w laid (c.runs_are_steady.ensures.ended s events w laid is)
