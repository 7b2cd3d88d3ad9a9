use Rattle.std.proofs.Common.{◌≡◌, [], length, arith, rules}
use Rattle.tap_flows.proofs.WalkLemmas.{sound_new, contents_new}
use Rattle.tap_flows.proofs.table.Table.new.Goals as goal

pub returns-clause-sound : goal.returns-clause-sound
returns-clause-sound c =
    let counted : c.in_ok-free_nodes.field-0.len ≡ length c.in_ok-free_nodes.field-0.items = search rules in
    let sized : length c.in_ok-free_nodes.field-0.items ≡ c.args.limit.nodes = omega (arith, c.in_ok-free_nodes.ensures.sized) in
    ([], sound_new _ _ _ _ _ _ sized c.in_ok-free_nodes.ensures.free c.in_ok-free_chain.ensures c.in_ok-new.ensures.next c.in_ok-new.ensures.previous)

pub returns-clause-empty : goal.returns-clause-empty
returns-clause-empty c = contents_new _ c.in_ok-free_nodes.ensures.free
