use Rattle.std.proofs.Common.{List, ◌++◌, All, IsTrue, ap, sym, ◌∙◌, subst}
use Rattle.guest_mem.specs.Memory.{Contents, covers}
use Rattle.vring_split.specs.declared.segment.Segment.{Segment}
use Rattle.vring_walk.specs.Spread.{laid}
use Rattle.vring_turns.specs.Ring.{Gathered, LieIn, segments_of}
use Rattle.vhost_rx.proofs.Splits.{all_kept, segments_of-split_into}
use Rattle.vhost_rx.proofs.chains.Chains.lay.Goals as goal

pub scatter-requires-clause-covered : goal.scatter-requires-clause-covered
scatter-requires-clause-covered c =
    let P : List Segment → Type 0 = λ ss. All (λ s. IsTrue (covers c.args.mem.now.regions s.addr s.len)) ss in
    let Q : List Gathered → Type 0 = λ cs. LieIn (covers c.args.mem.now.regions) cs in
    subst P (sym c.list.ensures.list)
    (all_kept (covers c.args.mem.now.regions) c.self.inside.kept.items c.self.inside.room c.self.invariant.split
    (subst Q (sym c.self.view_is) c.requires.lies))

pub returns : goal.returns
returns c =
    let m = c.args.mem.now in
    let F : List Segment → Contents =
    λ ss. record m { bytes = laid m.bytes ss (c.args.front.now ++ c.args.behind.now) } in
    c.scatter.ensures ∙ ap F (c.list.ensures.list
    ∙ (sym (segments_of-split_into c.self.inside.kept.items c.self.inside.room c.self.invariant.split)
    ∙ ap segments_of c.self.view_is))
