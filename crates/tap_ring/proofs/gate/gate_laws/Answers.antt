use Rattle.tap_ring.proofs.Kit.{gate_parts}
use Rattle.tap_ring.proofs.gate.gate_laws.Goals as goal

pub returns : goal.returns
returns c = gate_parts
