use Rattle.trace_text.proofs.OneBad.{one_bad}
use Rattle.trace_text.proofs.laws.one_bad_line.Goals as goal

pub returns : goal.returns
returns c = one_bad
