use Rattle.std.proofs.Common.{◌≡◌, [], get_or, length, sym, ap, ◌∙◌, refl, arith, rules}
use Rattle.tap_flows.proofs.TableLemmas.{cut_node, sizes}
use Rattle.tap_flows.proofs.WalkLemmas.{age_first, age_next, forgotten_all, first_left, none_left}
use Rattle.tap_flows.proofs.table.Table.forget.Goals as goal

pub loop-init : goal.loop-init
loop-init c =
    let s = c.requires in
    record {
      left = s.0;
      walk = record { walked = []; sound = s.1; others = tt };
      limit = refl;
      here = c.oldest-node.ensures ∙ age_first c.args.self.now s.0 s.1;
      same = refl;
      counted = omega (arith, s.1.counted);
    }

pub next-after-requires : goal.next-after-requires
next-after-requires c =
    let i = c.loop.invariant in
    let first = first_left c.loop.self c.args.index c.loop.node.number i.left i.walk i.here (omega (arith, i.counted)) in
    let node = cut_node _ _ _ _ _ _ _ first.1.walked c.loop.node.number first.0 first.1.sound in
    let counted : c.loop.self.ages.next.len ≡ length c.loop.self.ages.next.items = search rules in
    omega (arith, node.0, (sizes c.loop.self _ first.1.sound).ages)

pub loop-preserved : goal.loop-preserved
loop-preserved c =
    let i = c.loop.invariant in
    let first = first_left c.loop.self c.args.index c.loop.node.number i.left i.walk i.here (omega (arith, i.counted)) in
    record {
      left = first.0;
      walk = c.remove_of.ensures.walk first.0 first.1;
      limit = c.remove_of.ensures.limit ∙ i.limit;
      here = c.next-after.ensures.following ∙ age_next c.loop.self first.1.walked c.loop.node.number first.0 first.1.sound ∙ ap (λ limit. get_or first.0 0 limit.nodes) (sym c.remove_of.ensures.limit);
      same = c.remove_of.ensures.contents ∙ i.same;
      counted = omega (arith, i.counted, first.2);
    }

pub returns-clause-contents : goal.returns-clause-contents
returns-clause-contents c =
    let i = c.loop.invariant in
    let none : length i.left ≡ 0 = omega (arith, i.counted) in
    sym (forgotten_all c.loop.self c.args.index (none_left c.loop.self c.args.index i.left i.walk none)) ∙ i.same
