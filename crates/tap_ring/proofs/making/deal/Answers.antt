use Rattle.std.proofs.Common.{arith, ap, ◌∙◌}
use Rattle.tap_ring.specs.Steps.{Seated}
use Rattle.tap_ring.proofs.Splits.{splits_producer}
use Rattle.tap_ring.proofs.making.deal.Goals as goal

pub split_seat-one-requires : goal.split_seat-one-requires
split_seat-one-requires c =
    let m = c.loop.invariant.maker in
    let parts = ap (λ (x : Seated). x.0.parts) m in
    let more = c.loop-test.true in (
      c.loop.invariant.ring ∙ c.requires.ring.0,
      c.requires.ring.1,
      splits_producer _ _ c.loop.seat.me.0 (ap (λ (x : Seated). x.0.takes) m) (ap (λ (x : Seated). x.0.in_hand) m) (ap (λ (x : Seated). x.0.putting) m) (ap (λ (x : Seated). x.0.mine) m) (omega (arith, parts, more)),
    )
