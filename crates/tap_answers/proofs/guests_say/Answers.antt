use Rattle.tap_answers.specs.Laws.{is_on_guest}
use Rattle.tap_answers.proofs.GuestRows as rows
use Rattle.tap_answers.proofs.Telling as telling
use Rattle.tap_answers.proofs.guests_say.Goals as goal

pub returns : goal.returns
returns c = telling.say_by is_on_guest rows.guests_by c.laid_runs_are_sound.ensures c.runs_are_steady.ensures.reached
