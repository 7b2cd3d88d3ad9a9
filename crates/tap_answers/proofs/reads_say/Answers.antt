use Rattle.tap_answers.specs.Laws.{is_read}
use Rattle.tap_answers.proofs.ReadRows as rows
use Rattle.tap_answers.proofs.Telling as telling
use Rattle.tap_answers.proofs.reads_say.Goals as goal

pub returns : goal.returns
returns c = telling.say_by is_read rows.reads_by c.laid_runs_are_sound.ensures c.runs_are_steady.ensures.reached
