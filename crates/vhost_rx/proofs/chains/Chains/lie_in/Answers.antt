use Rattle.std.proofs.Common.{List, All, IsTrue, sym, subst}
use Rattle.guest_mem.specs.Memory.{covers}
use Rattle.vring_split.specs.declared.segment.Segment.{Segment}
use Rattle.vring_turns.specs.Ring.{Gathered, LieIn}
use Rattle.vhost_rx.proofs.Splits.{all_kept, LieIn-split_into}
use Rattle.vhost_rx.proofs.chains.Chains.lie_in.Goals as goal

pub returns : goal.returns
returns c =
    let P : List Segment → Type 0 = λ ss. All (λ s. IsTrue (covers c.args.mem.now.regions s.addr s.len)) ss in
    let Q : List Gathered → Type 0 = λ cs. LieIn (covers c.args.mem.now.regions) cs in (
      λ t. subst Q c.self.view_is
          (LieIn-split_into (covers c.args.mem.now.regions) c.self.inside.kept.items c.self.inside.room
          (subst P c.list.ensures.list (c.lie_in.ensures.0 t))),
      λ l. c.lie_in.ensures.1
          (subst P (sym c.list.ensures.list)
          (all_kept (covers c.args.mem.now.regions) c.self.inside.kept.items c.self.inside.room
          c.self.invariant.split (subst Q (sym c.self.view_is) l))),
    )
