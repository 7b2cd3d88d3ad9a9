use Rattle.std.proofs.Common.{arith}
use Rattle.tap_ring.proofs.Freeing.{frees}
use Rattle.tap_ring.proofs.steps.add_freed.Goals as goal

pub fetch_add-requires : goal.fetch_add-requires
fetch_add-requires c = (c.requires.ring.0, omega (arith, c.requires.ring.1), frees _ _ _ c.args.seat.now.me c.requires.consumer.0 c.requires.consumer.1)
