use Rattle.tap_steer.proofs.RowLaws as lemmas
use Rattle.tap_steer.proofs.laws.rows_are_enabled.Goals as goal

pub returns : goal.returns
returns c = lemmas.rows_are_enabled
