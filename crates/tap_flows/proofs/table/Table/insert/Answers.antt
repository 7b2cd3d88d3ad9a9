use Rattle.std.proofs.Common.{◌≡◌, [], ◌∷◌, ◌++◌, length, Some, set, ap, ap₂, ◌∙◌, arith, rules, refl}
use Rattle.tap_flows.specs.Rings.{moved_next, moved_previous, linked_next, linked_previous}
use Rattle.tap_flows.specs.Heads.{free_head}
use Rattle.tap_flows.specs.Nodes.{contents}
use Rattle.tap_flows.proofs.RingLemmas.{at}
use Rattle.tap_flows.proofs.TableLemmas.{free_place, sound_with, contents_with, sound_by, sizes}
use Rattle.tap_flows.proofs.table.Table.insert.Goals as goal

pub link-requires-clause-node : goal.link-requires-clause-node
link-requires-clause-node c =
    let s = c.requires.sound in
    let free = free_place _ _ _ _ _ _ _ s.0 s.1 c.requires.room in
    let counted : c.args.self.now.ages.next.len ≡ length c.args.self.now.ages.next.items = search rules in
    omega (arith, free.0, (sizes c.args.self.now _ s.1).ages, c.first_free-node.ensures)

pub index_mut-requires : goal.index_mut-requires
index_mut-requires c =
    let s = c.requires.sound in
    let free = free_place _ _ _ _ _ _ _ s.0 s.1 c.requires.room in
    let counted : c.args.self.now.nodes.len ≡ length c.args.self.now.nodes.items = search rules in
    omega (arith, free.0, (sizes c.args.self.now _ s.1).nodes, c.first_free-node.ensures)

pub returns-clause-sound : goal.returns-clause-sound
returns-clause-sound c =
    let s = c.requires.sound in
    let t = c.args.self.now in
    let place = c.first_free-node.ensures in
    let bucket = c.bucket.ensures in (
      s.0 ++ at t.chains.next.items (free_head t.limit.nodes) ∷ [],
      sound_by _ _ _ _ _ _ _ _ _ _ _ _ _ _ (sound_with _ _ _ _ _ _ _ s.0 s.1 c.args.entry c.requires.room c.requires.absent c.requires.latest)
          (ap (λ n. set t.nodes.items n (Some c.args.entry)) place)
          (c.move_to.ensures.next ∙ ap₂ (moved_next t.chains.next.items t.chains.previous.items) place bucket)
          (c.move_to.ensures.previous ∙ ap₂ (moved_previous t.chains.next.items t.chains.previous.items) place bucket)
          (c.link.ensures.next ∙ ap₂ (linked_next t.ages.next.items t.ages.previous.items) place c.ages.ensures)
          (c.link.ensures.previous ∙ ap₂ (linked_previous t.ages.next.items t.ages.previous.items) place c.ages.ensures)
          refl,
    )

pub returns-clause-contents : goal.returns-clause-contents
returns-clause-contents c =
    let s = c.requires.sound in
    ap (λ n. contents (set c.args.self.now.nodes.items n (Some c.args.entry))) c.first_free-node.ensures
    ∙ contents_with _ _ _ _ _ _ _ s.0 s.1 c.args.entry c.requires.room c.requires.absent
