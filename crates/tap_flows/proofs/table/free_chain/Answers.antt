use Rattle.std.proofs.Common.{ap, ◌∙◌}
use Rattle.tap_flows.specs.Rings.{linked_next, linked_previous}
use Rattle.tap_flows.proofs.WalkLemmas.{free_none, free_more, free_by}
use Rattle.tap_flows.proofs.table.free_chain.Goals as goal

pub loop-number-init : goal.loop-number-init
loop-number-init c = free_none c.args.limit.nodes c.in_ok-chains.chains.next.items c.in_ok-chains.chains.previous.items c.in_ok-chains.ensures.next c.in_ok-chains.ensures.previous

pub loop-number-preserved : goal.loop-number-preserved
loop-number-preserved c =
    let links = c.loop-number.chains in
    free_by _ _ _ _ _ _ (free_more c.args.limit.nodes links.next.items links.previous.items c.loop-number.number c.loop-number-test.true c.loop-number.invariant)
    (c.link.ensures.next ∙ ap (linked_next links.next.items links.previous.items c.loop-number.number) c.free.ensures)
    (c.link.ensures.previous ∙ ap (linked_previous links.next.items links.previous.items c.loop-number.number) c.free.ensures)
