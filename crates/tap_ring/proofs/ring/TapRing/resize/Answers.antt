use Rattle.std.proofs.Common.{ap}
use Rattle.tap_ring.specs.Steps.{Seated}
use Rattle.tap_ring.proofs.ring.TapRing.resize.Goals as goal

pub add_resize-word-requires-clause-stored : goal.add_resize-word-requires-clause-stored
add_resize-word-requires-clause-stored c = (c.args.capacity, ap (λ (m : Seated). m.0.stored) c.store_capacity.ensures.told)
