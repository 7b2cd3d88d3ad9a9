use Rattle.tap_answers.proofs.NoRings as rings
use Rattle.tap_answers.proofs.missing_rings_are_told.Goals as goal

pub returns : goal.returns
returns c = rings.missing_rings_are_told
