use Rattle.std.proofs.Common.{◌∙◌}
use Rattle.std.proofs.lemmas.Result.{IfOk-weaker}
use Rattle.tap_told.proofs.Filled.{phases_told}
use Rattle.tap_told.proofs.phases.phase_parts.Goals as goal

pub returns : goal.returns
returns c =
    IfOk-weaker c.close_parts.result _ _
    (λ parts e. e ∙ phases_told c.args.scenario.now c.args.ops.now c.args.said.items _ _ _ _ _ c.as_slice.ensures c.in_ok-parts.ensures
    c.deref_mut.ensures.value c.deref_mut.ensures.len c.tell_all.auto.parts c.in_ok-tell_all.ensures)
    c.close_parts.ensures
