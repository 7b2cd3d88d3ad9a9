use Rattle.tap_answers.specs.Laws.{is_backend}
use Rattle.tap_answers.proofs.BackendRows as rows
use Rattle.tap_answers.proofs.Telling as telling
use Rattle.tap_answers.proofs.backends_say.Goals as goal

pub returns : goal.returns
returns c = telling.say_by is_backend rows.backends_by c.laid_runs_are_sound.ensures c.runs_are_steady.ensures.reached
