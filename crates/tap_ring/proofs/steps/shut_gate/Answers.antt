use Rattle.std.proofs.Common.{arith}
use Rattle.tap_ring.proofs.Gates.{shuts}
use Rattle.tap_ring.proofs.steps.shut_gate.Goals as goal

pub fetch_add-requires : goal.fetch_add-requires
fetch_add-requires c = (c.requires.ring.0, omega (arith, c.requires.ring.1), shuts _ _ _ c.args.seat.now.me c.requires.keeper.0 c.requires.keeper.1 c.requires.keeper.2)
