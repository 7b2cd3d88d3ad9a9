use Rattle.std.proofs.Common.{length}
use Rattle.trace_text.proofs.ReadLines.{Read}
use Rattle.trace_text.proofs.reading.read_trace.Given as goal

abbrev pub invariant-lines : goal.invariant-lines
invariant-lines l = Read l.bytes l.rest l.number l.builder

abbrev pub decreases-lines : goal.decreases-lines
decreases-lines l = length l.rest
