use Rattle.tap_steady.proofs.NamedSound as named
use Rattle.tap_steady.proofs.tables_are_sound.Goals as goal

pub returns : goal.returns
returns c = named.tables_are_sound c.names_stay.ensures c.reached_is_sound.ensures
