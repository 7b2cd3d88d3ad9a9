use Rattle.trace_text.proofs.Adds.{opens_ring}
use Rattle.trace_text.proofs.parts.open_ring.Goals as goal

pub returns : goal.returns
returns c = opens_ring c.args.trace.now c.pop.result c.pop.new.self c.pop.ensures
