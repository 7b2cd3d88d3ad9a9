use Rattle.tap_answers.specs.Laws.{is_turn}
use Rattle.tap_answers.proofs.TurnRows as rows
use Rattle.tap_answers.proofs.Telling as telling
use Rattle.tap_answers.proofs.turns_say.Goals as goal

pub returns : goal.returns
returns c = telling.say_by is_turn rows.turns_by c.laid_runs_are_sound.ensures c.runs_are_steady.ensures.reached
