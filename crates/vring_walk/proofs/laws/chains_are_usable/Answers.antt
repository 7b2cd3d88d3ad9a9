use Rattle.vring_walk.proofs.Usable.{usable_chain}
use Rattle.vring_walk.proofs.laws.chains_are_usable.Goals as goal

pub returns : goal.returns
returns c = usable_chain
