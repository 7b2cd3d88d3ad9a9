use Rattle.core_shared.proofs.Stepping.{steps}
use Rattle.core_shared.proofs.laws.events_make_steps.Goals as goal

pub returns : goal.returns
returns c = steps
