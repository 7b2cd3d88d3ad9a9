use Rattle.trace_text.proofs.ReadLines.{one_trace}
use Rattle.trace_text.proofs.laws.one_text.Goals as goal

pub returns : goal.returns
returns c = one_trace c.said_laws.ensures.one c.said_laws.ensures.no_end
