use Rattle.tap_sound.proofs.Worlds as worlds
use Rattle.tap_sound.proofs.worlds_go_on.Goals as goal

pub returns-clause-first : goal.returns-clause-first
returns-clause-first c = worlds.opening_is_first

pub returns-clause-begin : goal.returns-clause-begin
returns-clause-begin c = worlds.phases_begin

pub returns-clause-event : goal.returns-clause-event
returns-clause-event c = worlds.events_go_on

pub returns-clause-end : goal.returns-clause-end
returns-clause-end c = worlds.phases_end_so

pub returns-clause-last : goal.returns-clause-last
returns-clause-last c = worlds.last_is_run

pub returns-clause-reached : goal.returns-clause-reached
returns-clause-reached c = worlds.worlds_go_on
