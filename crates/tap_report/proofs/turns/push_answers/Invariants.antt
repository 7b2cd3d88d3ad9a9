use Rattle.std.proofs.Common.{◌≡◌, ◌++◌, take}
use Rattle.std.specs.List.{flat_map}
use Rattle.tap_report.specs.Turns.{answer_turn}
use Rattle.tap_report.proofs.turns.push_answers.Given as goal

abbrev pub invariant-loop-answer : goal.invariant-loop-answer
invariant-loop-answer l = l.out ≡ l.fn.out ++ flat_map (answer_turn l.roles) (take l.answer-index l.answers)
