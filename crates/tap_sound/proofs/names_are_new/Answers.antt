use Rattle.tap_sound.proofs.FreshKept as fresh
use Rattle.tap_sound.proofs.names_are_new.Goals as goal

pub returns : goal.returns
returns c = fresh.names_are_new
