use Rattle.std.proofs.Common.{arith, ◌≡◌, ◌++◌, ◌∷◌, [], length, length-append, sym, ap, ◌∙◌, subst}
use Rattle.tap_ring.specs.Finish.{AllOfRing}
use Rattle.tap_ring.specs.Steps.{Seated}
use Rattle.tap_ring.specs.Leaving.{gathered}
use Rattle.tap_ring.proofs.Lines.{ring_parts}
use Rattle.tap_ring.proofs.Ends.{gathered_snoc}
use Rattle.tap_ring.proofs.ending.gather.Goals as goal

pub join-requires-clause-ring : goal.join-requires-clause-ring
join-requires-clause-ring c =
    let i = c.loop-p.invariant in
    let parts = ring_parts _ c.pop.new.self.items c.in-Some.p (subst (AllOfRing c.args.places.now.table_id) c.in-Some.ensures.items i.producers) in
    (i.ring ∙ c.requires.ring.0, parts.1, c.requires.ring.1)

pub loop-p-preserved : goal.loop-p-preserved
loop-p-preserved c =
    let i = c.loop-p.invariant in
    let items : c.loop-p.all.items ≡ c.pop.new.self.items ++ c.in-Some.p ∷ [] = c.in-Some.ensures.items in
    let parts = ring_parts _ c.pop.new.self.items c.in-Some.p (subst (AllOfRing c.args.places.now.table_id) items i.producers) in
    let joined = c.join.ensures.joined in
    let long = ap (λ l. length l) items in
    let more = length-append c.pop.new.self.items (c.in-Some.p ∷ []) in
    let now = ap (λ (m : Seated). m.0.parts) joined in
    let before = i.parts in
    record {
      ring = c.join.ensures.ring ∙ i.ring;
      producers = parts.0;
      takes = ap (λ (m : Seated). m.0.takes) joined ∙ i.takes;
      in_hand = ap (λ (m : Seated). m.0.in_hand) joined ∙ i.in_hand;
      putting = ap (λ (m : Seated). m.0.putting) joined ∙ i.putting;
      slots = ap (λ (m : Seated). m.1) joined;
      gathered_so_far =
          ap (λ (m : Seated). gathered m.0 c.pop.new.self.items) joined
          ∙ sym (gathered_snoc c.loop-p.seat.me.0 c.pop.new.self.items c.in-Some.p)
          ∙ ap (gathered c.loop-p.seat.me.0) (sym items)
          ∙ i.gathered_so_far;
      parts = omega (arith, before, long, more, now);
    }
