use Rattle.guest_mem.proofs.Lists.{same_list, bytes_from-bytes_at}
use Rattle.guest_mem.proofs.Ranges.{part-bytes_at}
use Rattle.guest_mem.proofs.laws.byte_laws.Goals as goal

pub returns-clause-one_list : goal.returns-clause-one_list
returns-clause-one_list c = λ rs bs cs h k e. same_list rs 0 bs cs h k e

pub returns-clause-looked_up : goal.returns-clause-looked_up
returns-clause-looked_up c = λ m a n sound. bytes_from-bytes_at m.regions m.bytes a n sound.bytes

pub returns-clause-parts : goal.returns-clause-parts
returns-clause-parts c = part-bytes_at
