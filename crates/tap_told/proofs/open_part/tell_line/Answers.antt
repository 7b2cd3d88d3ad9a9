use Rattle.std.proofs.Common.{[], ◌∷◌, ◌∙◌, ap, sym, set, arith}
use Rattle.tap_told.specs.Phases.{with_ops}
use Rattle.tap_told.proofs.Filled.{changed_here, changed_past}
use Rattle.tap_told.proofs.open_part.tell_line.Goals as goal

pub returns-in_ok-push_op : goal.returns-in_ok-push_op
returns-in_ok-push_op c =
    ap (λ p. set c.args.parts.now c.args.phase p) c.in_ok-push_op.ensures
    ∙ sym (changed_here c.args.phase (with_ops (c.args.line ∷ [])) c.args.parts.now _ c.if-index-parts.true)

pub returns-else-index-parts : goal.returns-else-index-parts
returns-else-index-parts c =
    sym (changed_past 0 c.args.phase (with_ops (c.args.line ∷ [])) c.args.parts.now (omega (arith, c.if-index-parts.false)))
