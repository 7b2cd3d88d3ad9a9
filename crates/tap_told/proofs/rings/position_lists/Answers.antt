use Rattle.std.proofs.Common.{◌∙◌, ap, refl, get_or}
use Rattle.tap_told.proofs.Positions.{list_more}
use Rattle.tap_told.proofs.rings.position_lists.Goals as goal

pub loop-index-preserved : goal.loop-index-preserved
loop-index-preserved c =
    let x = get_or c.args.lists.now c.loop-index.index (0, 0) in
    list_more c.loop-index.told _ _ c.args.lists.now c.loop-index.index _ x (0, 0) c.args.journal.now c.loop-index-test.true refl
    c.begins_at-end.ensures c.in_ok-push.ensures.ok
    (c.in_ok-position_list.ensures ∙ ap (λ js. record { base = x.0; used = js }) c.between.ensures) c.loop-index.invariant
