use Rattle.tap_waits.proofs.Standstill as laws
use Rattle.tap_waits.proofs.no_standstill.Goals as goal

pub returns : goal.returns
returns c = laws.no_standstill
