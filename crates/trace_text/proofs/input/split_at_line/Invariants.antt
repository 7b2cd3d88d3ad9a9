use Rattle.std.proofs.Common.{length}
use Rattle.trace_text.proofs.Pieces.{Passed}
use Rattle.trace_text.proofs.input.split_at_line.Given as goal

abbrev pub invariant-pieces : goal.invariant-pieces
invariant-pieces l = Passed l.plain l.bytes l.rest

abbrev pub decreases-pieces : goal.decreases-pieces
decreases-pieces l = length l.rest
