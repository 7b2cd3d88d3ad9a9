use Rattle.std.proofs.Common.{◌≡◌, true, false, ◌&&◌, nat_lt, sym, ap, ◌∙◌, arith}
use Rattle.std.proofs.lemmas.Bool.Decides.{nat_tests}
use Rattle.vring_packed.specs.Publication.{places_ahead}
use Rattle.vring_packed.proofs.Among.{among_ahead}
use Rattle.vring_packed.proofs.notices.is_among.Goals as goal

pub returns-then-place-num : goal.returns-then-place-num
returns-then-place-num c =
    let inside : nat_lt c.args.place.now.at c.args.num ≡ true = let h = c.if-place-num.true in grind (arith, nat_tests) in
    ap (λ n. nat_lt n c.args.count) c.places_ahead.ensures
    ∙ sym (ap (λ b. b && nat_lt (places_ahead c.args.num c.args.from.now c.args.place.now) c.args.count) inside)
    ∙ sym (among_ahead c.args.num c.args.from.now c.args.place.now c.args.count c.requires.inside)

pub returns-else-place-num : goal.returns-else-place-num
returns-else-place-num c =
    let outside : nat_lt c.args.place.now.at c.args.num ≡ false = let h = c.if-place-num.false in grind (arith, nat_tests) in
    outside
    ∙ sym (ap (λ b. b && nat_lt (places_ahead c.args.num c.args.from.now c.args.place.now) c.args.count) outside)
    ∙ sym (among_ahead c.args.num c.args.from.now c.args.place.now c.args.count c.requires.inside)
