use Rattle.vring_walk.proofs.Crowds.{empty_is_not_crowded}
use Rattle.vring_walk.proofs.laws.empty_is_not_crowded.Goals as goal

pub returns : goal.returns
returns c = empty_is_not_crowded
