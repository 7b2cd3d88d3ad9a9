use Rattle.vring_walk.proofs.Paths.{path_length}
use Rattle.vring_walk.proofs.laws.no_long_path.Goals as goal

pub returns : goal.returns
returns c = path_length
