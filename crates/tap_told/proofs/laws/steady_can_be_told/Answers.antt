use Rattle.tap_told.proofs.Steady.{can_be_told}
use Rattle.tap_told.proofs.laws.steady_can_be_told.Goals as goal

pub returns : goal.returns
returns c = λ s w files sides laid steady same_files same_vhosts. can_be_told s w laid files sides steady same_files same_vhosts
