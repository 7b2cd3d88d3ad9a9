use Rattle.std.proofs.Common.{rules, ◌≡◌, ◌<◌, replicate, None, ap, ◌∙◌, subst}
use Rattle.atomic_table.specs.Table.{opening}
use Rattle.tap_ring.specs.declared.rule.Plan.{Plan}
use Rattle.tap_ring.specs.Standing.{Ring, maker}
use Rattle.tap_ring.specs.Steps.{Seated}
use Rattle.tap_ring.proofs.Splits.{splits_consumer}
use Rattle.tap_ring.proofs.Opening.{opens_words}
use Rattle.tap_ring.proofs.ring.TapRing.new.Goals as goal

pub vacant-requires : goal.vacant-requires
vacant-requires c =
    let plan : Plan = record { first = c.args.first; capacity = c.args.capacity; producers = c.from-3.result } in
    let most : c.args.most ≡ c.from-4.result = search rules in
    subst (λ n. Ring plan (opening c.deref.result.now (replicate n None) (maker plan))) most
    (opens_words plan c.args.most c.deref.result.now (c.deref.ensures.value ∙ c.in_ok-words.ensures) c.requires.capacity.0 c.requires.capacity.1 c.requires.first)

pub split_seat-theirs-requires : goal.split_seat-theirs-requires
split_seat-theirs-requires c =
    let m = c.deal-all.ensures.maker in
    let ring : c.deal-all.new.seat.table_id ≡ c.in-Ok.table.shared.table_id = search rules in
    let some_words : 0 < c.in-Ok.table.shared.table_id.words = search rules in
    (ring, some_words, splits_consumer _ _ c.deal-all.new.seat.me.0 (ap (λ (x : Seated). x.0.takes) m) (ap (λ (x : Seated). x.0.in_hand) m) (ap (λ (x : Seated). x.0.putting) m) (ap (λ (x : Seated). x.0.mine) m))
