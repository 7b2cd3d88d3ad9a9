use Rattle.scen_words.specs.Rows.{declaration_row}
use Rattle.scen_text.proofs.Loops.{text_more}
use Rattle.scen_text.proofs.writing.put_declarations.Goals as goal

pub loop-declaration-preserved : goal.loop-declaration-preserved
loop-declaration-preserved c = text_more (declaration_row c.args.names.now) _ _ _ c.args.declarations.now c.loop-declaration.declaration-index c.declaration-item.result _ c.loop-declaration-test.true c.declaration-item.is c.loop-declaration.invariant c.in_ok-put_declaration.ensures
