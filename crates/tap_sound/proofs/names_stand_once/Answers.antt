use Rattle.tap_sound.proofs.NamesKept as names
use Rattle.tap_sound.proofs.names_stand_once.Goals as goal

pub returns-clause-kept : goal.returns-clause-kept
returns-clause-kept c = names.names_are_kept

pub returns-clause-reached : goal.returns-clause-reached
returns-clause-reached c = names.names_stand_in_runs

pub returns-clause-ended : goal.returns-clause-ended
returns-clause-ended c = names.names_stand_after_runs
