use Rattle.std.proofs.Common.{◌∙◌, ap, sym, set, arith}
use Rattle.tap_told.specs.Phases.{with_answer}
use Rattle.tap_told.proofs.Filled.{changed_here, changed_past}
use Rattle.tap_told.proofs.open_part.tell_answer.Goals as goal

pub returns-in_ok-push_answer : goal.returns-in_ok-push_answer
returns-in_ok-push_answer c =
    ap (λ p. set c.args.parts.now c.args.said.phase p) c.in_ok-push_answer.ensures
    ∙ sym (changed_here c.args.said.phase (with_answer c.args.said.line) c.args.parts.now _ c.if-index-parts.true)

pub returns-else-index-parts : goal.returns-else-index-parts
returns-else-index-parts c =
    sym (changed_past 0 c.args.said.phase (with_answer c.args.said.line) c.args.parts.now (omega (arith, c.if-index-parts.false)))
