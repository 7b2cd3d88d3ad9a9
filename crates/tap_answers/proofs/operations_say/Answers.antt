use Rattle.tap_answers.specs.Laws.{is_operation}
use Rattle.tap_answers.proofs.OperationRows as rows
use Rattle.tap_answers.proofs.Telling as telling
use Rattle.tap_answers.proofs.operations_say.Goals as goal

pub returns : goal.returns
returns c = telling.say_by is_operation rows.operations_by c.laid_runs_are_sound.ensures c.runs_are_steady.ensures.reached
