use Rattle.std.proofs.Common.{arith}
use Rattle.tap_ring.proofs.Gates.{resizes_by}
use Rattle.tap_ring.proofs.steps.add_resize.Goals as goal

pub fetch_add-requires : goal.fetch_add-requires
fetch_add-requires c = (c.requires.ring.0, omega (arith, c.requires.ring.1), resizes_by _ _ _ c.requires.stored.0 c.args.seat.now.me c.requires.keeper.0 c.requires.keeper.1 c.requires.stored.1)
