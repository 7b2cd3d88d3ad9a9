use Rattle.tap_frame.proofs.Written.{text_spells}
use Rattle.tap_frame.proofs.laws.text_laws.Goals as goal

pub returns : goal.returns
returns c = text_spells
