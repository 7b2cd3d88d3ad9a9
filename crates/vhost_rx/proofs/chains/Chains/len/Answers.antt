use Rattle.std.proofs.Common.{ap, sym, ◌∙◌, length}
use Rattle.vhost_rx.proofs.Splits.{length-split_into}
use Rattle.vhost_rx.proofs.chains.Chains.len.Goals as goal

pub returns : goal.returns
returns c =
    c.len.ensures ∙ (c.self.invariant.counted
    ∙ (sym (length-split_into c.self.inside.kept.items c.self.inside.room) ∙ ap length c.self.view_is))
