use Rattle.scen_text.specs.ScenarioText.{bare_row}
use Rattle.scen_text.proofs.Loops.{text_more}
use Rattle.scen_text.proofs.writing.put_bare_lines.Goals as goal

pub loop-each-preserved : goal.loop-each-preserved
loop-each-preserved c = text_more (bare_row c.args.names.now) _ _ _ c.args.lines.now c.loop-each.each-index c.each-item.result _ c.loop-each-test.true c.each-item.is c.loop-each.invariant c.in_ok-put_bare.ensures
