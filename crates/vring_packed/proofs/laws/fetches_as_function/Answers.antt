use Rattle.vring_packed.proofs.Ends.{fetches_as_function}
use Rattle.vring_packed.proofs.laws.fetches_as_function.Goals as goal

pub returns : goal.returns
returns c = fetches_as_function
