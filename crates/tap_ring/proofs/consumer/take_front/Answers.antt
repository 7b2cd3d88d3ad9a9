use Rattle.std.proofs.Common.{◌≡◌, ◌+◌, ◌%◌, ℕ, ◌∷◌, eqb, true, sym, ap, ap₂, ◌∙◌, eq-eqb, Some}
use Rattle.atomic_table.specs.Table.{rest}
use Rattle.tap_ring.proofs.consumer.take_front.Goals as goal

pub exchange-item-requires : goal.exchange-item-requires
exchange-item-requires c =
    let v = c.args.seat.now.me in
    let next = c.requires.consumer.2 in
    let e : eqb c.load_front.result (v.0.next + 1) ≡ true = eq-eqb c.load_front.result (v.0.next + 1) (c.if-load_front-place.false ∙ ap (λ (n : ℕ). n + 1) next) in
    let t = rw e at c.load_front.ensures.told.1 in
    let slot : v.0.next % c.args.places.now.table_id.slots ≡ c.args.place % c.from.result = ap₂ (λ (a b : ℕ). a % b) (sym next) (c.requires.ring.2 ∙ sym c.from.ensures) in
    (c.load_front.ensures.ring ∙ c.requires.ring.0, (Some t.0, t.2 ∙ (λ i. (slot i, Some t.0) ∷ sym (ap rest t.2) i)))
