use Rattle.std.proofs.Common.{[], ◌∷◌, ◌++◌, ap, ◌∙◌, refl}
use Rattle.tap_report.specs.Frames.{placed}
use Rattle.tap_report.proofs.Loops.{pushed}
use Rattle.tap_report.proofs.frames.push_lines.Goals as goal

pub loop-line-preserved : goal.loop-line-preserved
loop-line-preserved c = pushed (placed c.args.index.now) c.args.out.now _ _ c.args.lines.now c.loop-line.line-index _ _ c.loop-line-test.true refl c.loop-line.invariant (c.in_ok-push.ensures.ok ∙ ap (λ r. c.loop-line.out ++ r ∷ []) c.placed.ensures)
