use Rattle.tap_ledger.proofs.Line.{hand_extends_line}
use Rattle.tap_ledger.proofs.laws.queue_laws.Goals as goal

pub returns-clause-hand : goal.returns-clause-hand
returns-clause-hand c = hand_extends_line
