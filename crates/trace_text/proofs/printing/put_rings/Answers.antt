use Rattle.trace_text.specs.Parts.{ring_part}
use Rattle.trace_text.proofs.Loops.{text_more_parts}
use Rattle.trace_text.proofs.printing.put_rings.Goals as goal

pub loop-ring-preserved : goal.loop-ring-preserved
loop-ring-preserved c = text_more_parts ring_part _ _ _ c.args.rings.now c.loop-ring.ring-index c.ring-item.result c.loop-ring-test.true c.ring-item.is c.loop-ring.invariant c.in_ok-put_ring.ensures
