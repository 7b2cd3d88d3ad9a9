use Rattle.std.proofs.Common.{refl}
use Rattle.example_runs.proofs.All.{all}
use Rattle.example_runs.proofs.runs_are_as_written.Goals as goal

pub returns : goal.returns
unfolding all
returns c = (refl, refl, refl, refl, refl, refl, refl, refl)
