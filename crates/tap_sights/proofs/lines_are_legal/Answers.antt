use Rattle.tap_sights.proofs.Lines as law
use Rattle.tap_sights.proofs.lines_are_legal.Goals as goal

pub returns : goal.returns
returns c = law.lines_are_legal
