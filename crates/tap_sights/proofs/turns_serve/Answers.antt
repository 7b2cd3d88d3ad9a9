use Rattle.tap_sights.proofs.ServedFiles as law
use Rattle.tap_sights.proofs.turns_serve.Goals as goal

pub returns : goal.returns
returns c = law.turn_serves
