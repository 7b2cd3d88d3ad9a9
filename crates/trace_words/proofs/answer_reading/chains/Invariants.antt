use Rattle.std.proofs.Common.{◌≡◌, length}
use Rattle.trace_words.specs.AnswerReading.{chains_of}
use Rattle.trace_words.proofs.ChainSteps.{with_front}
use Rattle.trace_words.proofs.answer_reading.chains.Given as goal

abbrev pub invariant-loop-field : goal.invariant-loop-field
invariant-loop-field l = with_front l.chains (chains_of l.left) ≡ chains_of l.fn.fields

abbrev pub decreases-loop-field : goal.decreases-loop-field
decreases-loop-field l = length l.left
