use Rattle.std.proofs.Common.{ap, ◌∙◌}
use Rattle.tap_ring.specs.declared.rule.Kept.{Kept}
use Rattle.tap_ring.specs.Tokens.{Token}
use Rattle.tap_ring.proofs.Joins.{joins_keeper}
use Rattle.tap_ring.proofs.ending.join_keeper.Goals as goal

pub join_seat-requires : goal.join_seat-requires
join_seat-requires c =
    let k = c.requires.consumer in
    let own = c.k.invariant.0 in (
      c.requires.ring.0,
      ap (λ (t : Token Kept). t.ring) c.k.view_is ∙ c.requires.ring.1,
      c.k.invariant.1,
      c.requires.ring.2,
      joins_keeper _ _ _ _ _ k.0 k.1 k.2 own.keeps own.spent own.parts own.mine own.putting,
    )
