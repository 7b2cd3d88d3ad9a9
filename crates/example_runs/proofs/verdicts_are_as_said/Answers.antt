use Rattle.std.proofs.Common.{refl}
use Rattle.example_runs.proofs.All.{all}
use Rattle.example_runs.proofs.verdicts_are_as_said.Goals as goal

pub returns-clause-legal : goal.returns-clause-legal
unfolding all
returns-clause-legal c = (refl, refl, refl, refl, refl, refl, refl, refl)

pub returns-clause-illegal : goal.returns-clause-illegal
unfolding all
returns-clause-illegal c = (refl, refl, refl, refl, refl, refl, refl, refl, refl, refl, refl, refl, refl, refl, refl, refl, refl, refl, refl, refl, refl)
