use Rattle.tap_answers.proofs.EveryRow as rows
use Rattle.tap_answers.proofs.answers_say.Goals as goal

pub returns : goal.returns
returns c = rows.answers_say c.laid_runs_are_sound.ensures c.runs_are_steady.ensures.reached
