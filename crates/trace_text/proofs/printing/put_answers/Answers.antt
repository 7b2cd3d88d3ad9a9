use Rattle.trace_words.specs.Answers.{answer_lines}
use Rattle.trace_text.proofs.Loops.{text_more_parts}
use Rattle.trace_text.proofs.printing.put_answers.Goals as goal

pub loop-answer-preserved : goal.loop-answer-preserved
loop-answer-preserved c = text_more_parts answer_lines _ _ _ c.args.answers.now c.loop-answer.answer-index c.answer-item.result c.loop-answer-test.true c.answer-item.is c.loop-answer.invariant c.in_ok-put_answer.ensures
