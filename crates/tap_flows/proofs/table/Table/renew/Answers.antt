use Rattle.std.proofs.Common.{◌≡◌, ap, ◌∙◌, refl}
use Rattle.tap_flows.specs.Rings.{moved_next, moved_previous}
use Rattle.tap_flows.specs.Nodes.{kept_at}
use Rattle.tap_flows.specs.declared.table.Entry.{Entry}
use Rattle.tap_flows.proofs.TableLemmas.{renewed, contents_renewed, sound_by, kept_entry}
use Rattle.tap_flows.proofs.table.Table.renew.Goals as goal

pub returns-clause-sound : goal.returns-clause-sound
returns-clause-sound c =
    let s = c.requires.sound in
    let t = c.args.self.now in
    let old = kept_entry (kept_at t.nodes.items c.args.node.number) (λ (entry : Entry). entry.hash ≡ c.args.entry.hash) c.requires.kept in
    let out = renewed _ _ _ _ _ _ _ s.0 s.1 c.args.node.number c.args.entry old.0 old.1 old.2 c.requires.latest in (
      out.0,
      sound_by _ _ _ _ _ _ _ _ _ _ _ _ _ _ out.1 refl refl refl
          (c.move_to.ensures.next ∙ ap (moved_next t.ages.next.items t.ages.previous.items c.args.node.number) c.ages.ensures)
          (c.move_to.ensures.previous ∙ ap (moved_previous t.ages.next.items t.ages.previous.items c.args.node.number) c.ages.ensures)
          refl,
    )

pub returns-clause-contents : goal.returns-clause-contents
returns-clause-contents c =
    let s = c.requires.sound in
    let t = c.args.self.now in
    let old = kept_entry (kept_at t.nodes.items c.args.node.number) (λ (entry : Entry). entry.hash ≡ c.args.entry.hash) c.requires.kept in
    contents_renewed _ _ _ _ _ _ _ s.0 s.1 c.args.node.number c.args.entry old.0 old.1 old.2
