use Rattle.vhost_rx.proofs.Readies.{have_chains}
use Rattle.vhost_rx.proofs.laws.ready_turns_have_chains.Goals as goal

pub returns : goal.returns
returns c = have_chains
