use Rattle.tap_sound.proofs.Reached as reached
use Rattle.tap_sound.proofs.run_is_kept.Goals as goal

pub returns-clause-whole : goal.returns-clause-whole
returns-clause-whole c = reached.run_is_kept

pub returns-clause-phase : goal.returns-clause-phase
returns-clause-phase c = reached.phase_is_kept

pub returns-clause-reached : goal.returns-clause-reached
returns-clause-reached c = reached.reached_is_kept
