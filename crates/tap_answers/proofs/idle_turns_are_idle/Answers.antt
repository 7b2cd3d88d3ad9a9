use Rattle.tap_answers.proofs.IdleSteps as idle
use Rattle.tap_answers.proofs.idle_turns_are_idle.Goals as goal

pub returns : goal.returns
returns c = idle.idle_turns_are_idle
