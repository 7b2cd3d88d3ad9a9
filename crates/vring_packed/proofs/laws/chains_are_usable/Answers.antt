use Rattle.vring_packed.proofs.Usable.{chains_are_usable}
use Rattle.vring_packed.proofs.laws.chains_are_usable.Goals as goal

pub returns : goal.returns
returns c = chains_are_usable
