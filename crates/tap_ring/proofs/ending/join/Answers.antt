use Rattle.std.proofs.Common.{ap, ◌∙◌}
use Rattle.tap_ring.specs.declared.rule.Produced.{Produced}
use Rattle.tap_ring.specs.Tokens.{Token}
use Rattle.tap_ring.proofs.Joins.{joins_producer}
use Rattle.tap_ring.proofs.ending.join.Goals as goal

pub join_seat-requires : goal.join_seat-requires
join_seat-requires c =
    let k = c.requires.consumer in (
      c.requires.ring.0,
      ap (λ (t : Token Produced). t.ring) c.p.view_is ∙ c.requires.ring.1,
      c.p.invariant.1,
      c.requires.ring.2,
      joins_producer _ _ _ _ _ k.0 k.1 k.2 c.p.invariant.0.putting c.p.invariant.0.spent c.p.invariant.0.parts,
    )
