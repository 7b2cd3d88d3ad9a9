use Rattle.std.proofs.Common.{◌≡◌, length}
use Rattle.std.specs.Vec.Iter.{into_iter_items, into_iter_len}
use Rattle.tap_told.specs.Phases.{answers_told}
use Rattle.tap_told.proofs.phases.tell_answers.Given as goal

abbrev pub invariant-loop-answer : goal.invariant-loop-answer
invariant-loop-answer l =
    (answers_told l.parts (into_iter_items l.answer-iterator) ≡ answers_told l.fn.parts l.fn.said.items)
    × (into_iter_len l.answer-iterator ≡ length (into_iter_items l.answer-iterator))
