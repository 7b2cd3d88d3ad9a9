use Rattle.std.proofs.Common.{◌++◌, ◌∙◌, ap, refl}
use Rattle.tap_told.proofs.Lists.{place_more}
use Rattle.tap_told.proofs.files.place_lines.Goals as goal

pub loop-index-preserved : goal.loop-index-preserved
loop-index-preserved c =
    place_more c.args.first _ _ c.args.line.now c.loop-index.index _ _ c.loop-index-test.true refl c.loop-index.invariant
    (c.in_ok-push.ensures.ok ∙ ap (λ t. c.loop-index.lines ++ t) c.place_line.ensures)
