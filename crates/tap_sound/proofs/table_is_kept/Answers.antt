use Rattle.tap_sound.proofs.Tabled as tabled
use Rattle.tap_sound.proofs.table_is_kept.Goals as goal

pub returns : goal.returns
returns c = λ s w e u is q h. tabled.table_is_kept s w e u is q.0 q.1 h
