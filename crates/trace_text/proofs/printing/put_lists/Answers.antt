use Rattle.trace_text.specs.Parts.{list_part}
use Rattle.trace_text.proofs.Loops.{text_more_parts}
use Rattle.trace_text.proofs.printing.put_lists.Goals as goal

pub loop-list-preserved : goal.loop-list-preserved
loop-list-preserved c = text_more_parts list_part _ _ _ c.args.lists.now c.loop-list.list-index c.list-item.result c.loop-list-test.true c.list-item.is c.loop-list.invariant c.in_ok-put_list.ensures
