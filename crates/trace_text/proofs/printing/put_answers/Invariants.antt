use Rattle.std.proofs.Common.{◌≡◌, ◌++◌, take, string_bytes}
use Rattle.std.specs.List.{flat_map}
use Rattle.scen_words.specs.Field.{text}
use Rattle.trace_words.specs.Answers.{answer_lines}
use Rattle.trace_text.proofs.printing.put_answers.Given as goal

abbrev pub invariant-loop-answer : goal.invariant-loop-answer
invariant-loop-answer l = string_bytes l.out ≡ string_bytes l.fn.out ++ text (flat_map answer_lines (take l.answer-index l.answers))
