use Rattle.tap_world.specs.SoundActors.{is_send}
use Rattle.tap_answers.proofs.SendRows as rows
use Rattle.tap_answers.proofs.Telling as telling
use Rattle.tap_answers.proofs.sends_say.Goals as goal

pub returns : goal.returns
returns c = telling.say_by is_send rows.sends_by c.laid_runs_are_sound.ensures c.runs_are_steady.ensures.reached
