use Rattle.tap_steady.proofs.Named as named
use Rattle.tap_steady.proofs.what_is_named_is_there.Goals as goal

pub returns : goal.returns
returns c = named.what_is_named_is_there c.rows_are_enabled.ensures c.tables_are_sound.ensures
