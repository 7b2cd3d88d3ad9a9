use Rattle.std.proofs.Common.{◌≡◌, ap, sym, ◌∙◌, length, arith}
use Rattle.vring_turns.specs.ReceiveImage.{shares}
use Rattle.vhost_rx.specs.Kept.{kept_shares}
use Rattle.vhost_rx.proofs.Splits.{length-split_into, shares-split_into}
use Rattle.vhost_rx.proofs.chains.Chains.finish.Goals as goal

pub finish_all-requires-clause-gathered : goal.finish_all-requires-clause-gathered
finish_all-requires-clause-gathered c =
    c.requires.gathered ∙ (ap length (sym c.self.view_is)
    ∙ (length-split_into c.self.inside.kept.items c.self.inside.room ∙ ap length (sym c.deref.ensures.value)))

pub finish_all-requires-clause-room : goal.finish_all-requires-clause-room
finish_all-requires-clause-room c =
    let a = ap length (sym c.self.view_is) in
    let b = length-split_into c.self.inside.kept.items c.self.inside.room in
    let d = ap length (sym c.deref.ensures.value) in
    let r = c.requires.room in
    omega arith

pub returns-clause-queue : goal.returns-clause-queue
returns-clause-queue c =
    let e : kept_shares c.deref.result.now c.args.len ≡ shares c.args.self.now c.args.len =
    ap (λ ks. kept_shares ks c.args.len) c.deref.ensures.value
    ∙ (sym (shares-split_into c.self.inside.kept.items c.self.inside.room c.args.len c.self.invariant.split)
    ∙ ap (λ cs. shares cs c.args.len) c.self.view_is) in
    rw (← e) c.finish_all.ensures
