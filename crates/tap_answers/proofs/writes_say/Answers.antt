use Rattle.tap_answers.specs.Laws.{is_write}
use Rattle.tap_answers.proofs.WriteRows as rows
use Rattle.tap_answers.proofs.Telling as telling
use Rattle.tap_answers.proofs.writes_say.Goals as goal

pub returns : goal.returns
returns c = telling.say_by is_write rows.writes_by c.laid_runs_are_sound.ensures c.runs_are_steady.ensures.reached
