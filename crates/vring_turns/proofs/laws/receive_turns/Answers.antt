use Rattle.vring_turns.proofs.RxRuns.{run_did}
use Rattle.vring_turns.proofs.Publishes.{receive_publishes}
use Rattle.vring_turns.proofs.RxLines.{run_passes}
use Rattle.vring_turns.proofs.laws.receive_turns.Goals as goal

pub returns-clause-chains : goal.returns-clause-chains
returns-clause-chains c = run_did

pub returns-clause-publications : goal.returns-clause-publications
returns-clause-publications c = receive_publishes

pub returns-clause-line : goal.returns-clause-line
returns-clause-line c = run_passes
