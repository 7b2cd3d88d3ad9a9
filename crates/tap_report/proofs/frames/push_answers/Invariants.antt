use Rattle.std.proofs.Common.{◌≡◌, ◌++◌, take}
use Rattle.std.specs.List.{flat_map}
use Rattle.tap_report.specs.Frames.{answered}
use Rattle.tap_report.proofs.frames.push_answers.Given as goal

abbrev pub invariant-loop-answer : goal.invariant-loop-answer
invariant-loop-answer l = l.out ≡ l.fn.out ++ flat_map (answered l.index) (take l.answer-index l.answers)
