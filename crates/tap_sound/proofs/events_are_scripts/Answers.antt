use Rattle.tap_sound.proofs.Whole as whole
use Rattle.tap_sound.proofs.events_are_scripts.Goals as goal

pub returns-clause-whole : goal.returns-clause-whole
returns-clause-whole c = whole.events_are_scripts

pub returns-clause-so_far : goal.returns-clause-so_far
returns-clause-so_far c = whole.events_begin_scripts
