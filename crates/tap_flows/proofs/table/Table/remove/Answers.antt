use Rattle.std.proofs.Common.{◌≡◌, ◌<◌, length, ap, ◌∙◌, arith, rules, refl}
use Rattle.std.specs.Vec.{vec_len}
use Rattle.tap_flows.specs.Rings.{moved_next, moved_previous}
use Rattle.tap_flows.proofs.TableLemmas.{cut_node, sound_without, sound_by, sizes}
use Rattle.tap_flows.proofs.table.Table.remove.Goals as goal

pub unlink-requires : goal.unlink-requires
unlink-requires c =
    let a = c.requires.aged in
    let node = cut_node _ _ _ _ _ _ _ a.0 c.args.node.number a.1 a.2 in
    let counted : c.args.self.now.ages.next.len ≡ length c.args.self.now.ages.next.items = search rules in
    omega (arith, node.0, (sizes c.args.self.now _ a.2).ages)

pub move_to-requires-clause-node : goal.move_to-requires-clause-node
move_to-requires-clause-node c =
    let a = c.requires.aged in
    let node = cut_node _ _ _ _ _ _ _ a.0 c.args.node.number a.1 a.2 in
    let counted : c.args.self.now.chains.next.len ≡ length c.args.self.now.chains.next.items = search rules in
    let below : c.args.node.number < vec_len c.args.self.now.chains.next = omega (arith, node.0, (sizes c.args.self.now _ a.2).chains) in
    below

pub index_mut-requires : goal.index_mut-requires
index_mut-requires c =
    let a = c.requires.aged in
    let node = cut_node _ _ _ _ _ _ _ a.0 c.args.node.number a.1 a.2 in
    let counted : c.args.self.now.nodes.len ≡ length c.args.self.now.nodes.items = search rules in
    omega (arith, node.0, (sizes c.args.self.now _ a.2).nodes)

pub returns-clause-sound : goal.returns-clause-sound
returns-clause-sound c = λ before behind s.
    let t = c.args.self.now in
    sound_by _ _ _ _ _ _ _ _ _ _ _ _ _ _ (sound_without _ _ _ _ _ _ _ before c.args.node.number behind s)
    refl
    (c.move_to.ensures.next ∙ ap (moved_next t.chains.next.items t.chains.previous.items c.args.node.number) c.free.ensures)
    (c.move_to.ensures.previous ∙ ap (moved_previous t.chains.next.items t.chains.previous.items c.args.node.number) c.free.ensures)
    c.unlink.ensures.next c.unlink.ensures.previous refl
