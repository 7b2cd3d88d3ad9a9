use Rattle.std.proofs.Common.{◌≡◌, length, sym, ◌∙◌, arith, rules}
use Rattle.std.proofs.lemmas.Bool.{false≢true}
use Rattle.tap_flows.proofs.TableLemmas.{cut_node, sizes}
use Rattle.tap_flows.proofs.WalkLemmas.{walk_past, walk_removed, forgotten_take}
use Rattle.tap_flows.proofs.table.Table.remove_of.Goals as goal

pub keeps_index-requires : goal.keeps_index-requires
keeps_index-requires c =
    let a = c.requires.aged in
    let node = cut_node _ _ _ _ _ _ _ a.0 c.args.node.number a.1 a.2 in
    let counted : c.args.self.now.nodes.len ≡ length c.args.self.now.nodes.items = search rules in
    omega (arith, node.0, (sizes c.args.self.now _ a.2).nodes)

pub returns-then-keeps_index-clause-walk : goal.returns-then-keeps_index-clause-walk
returns-then-keeps_index-clause-walk c = λ left w. walk_removed c.args.self.now c.remove.new.self c.args.index c.args.node.number left w (c.remove.ensures.sound w.walked left w.sound) c.remove.ensures.nodes

pub returns-then-keeps_index-clause-contents : goal.returns-then-keeps_index-clause-contents
returns-then-keeps_index-clause-contents c = forgotten_take c.args.self.now.nodes.items c.remove.new.self.nodes.items c.args.index c.args.node.number c.requires.aged.2.distinct (c.keeps_index.ensures.0 c.if-keeps_index.true) c.remove.ensures.nodes

pub returns-else-keeps_index-clause-walk : goal.returns-else-keeps_index-clause-walk
returns-else-keeps_index-clause-walk c = λ left w. walk_past c.args.self.now c.args.index c.args.node.number left w (λ keeps. false≢true (sym c.if-keeps_index.false ∙ c.keeps_index.ensures.1 keeps))
