use Rattle.vring_turns.proofs.TxRuns.{run_did}
use Rattle.vring_turns.proofs.TxFrames.{run_passes}
use Rattle.vring_turns.proofs.Publishes.{transmit_publishes}
use Rattle.vring_turns.proofs.laws.transmit_turns.Goals as goal

pub returns-clause-chains : goal.returns-clause-chains
returns-clause-chains c = run_did

pub returns-clause-frames : goal.returns-clause-frames
returns-clause-frames c = run_passes

pub returns-clause-publications : goal.returns-clause-publications
returns-clause-publications c = transmit_publishes
