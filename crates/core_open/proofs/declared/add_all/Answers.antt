use Rattle.std.proofs.Common.{◌∙◌, List, fold, sym, ap, take}
use Rattle.scen_words.specs.declared.declaration.Declaration.{Declaration}
use Rattle.core_open.specs.Collected.{collected}
use Rattle.core_open.proofs.Folding.{fold_more}
use Rattle.tap_world.specs.Setup.{Setup, with_declaration}
use Rattle.core_open.proofs.declared.add_all.Goals as goal

pub loop-declaration-preserved : goal.loop-declaration-preserved
loop-declaration-preserved c = λ s e.
    let i = c.loop-declaration.declaration-index in
    let ds : List Declaration = c.args.declarations.now in
    let more = fold_more with_declaration s ds i _ c.loop-declaration-test.true c.declaration-item.is in
    c.in_ok-add.ensures (fold with_declaration s (take i ds)) (c.loop-declaration.invariant s e)
    ∙ ap (λ (t : Setup). collected t) (sym more)
