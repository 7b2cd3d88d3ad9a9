use Rattle.tap_answers.proofs.IdleRuns as idle
use Rattle.tap_answers.proofs.idle_turns_found_none.Goals as goal

pub returns : goal.returns
returns c = idle.idle_turns_found_none c.laid_runs_are_sound.ensures c.runs_are_steady.ensures.reached c.runs_grow.ensures
