use Rattle.tap_waits.proofs.NextEach as laws
use Rattle.tap_waits.proofs.next_is_allowed.Goals as goal

pub returns : goal.returns
returns c = laws.next_is_allowed c.transmit_ready.ensures.goes_on
