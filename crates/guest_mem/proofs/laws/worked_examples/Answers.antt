use Rattle.std.proofs.Common.{refl}
use Rattle.guest_mem.specs.Memory.{gaps, first_bad, bytes_from, with_bytes}
use Rattle.guest_mem.proofs.laws.worked_examples.Goals as goal

pub returns-clause-ranges : goal.returns-clause-ranges
unfolding gaps first_bad
returns-clause-ranges c = refl

pub returns-clause-writes : goal.returns-clause-writes
unfolding bytes_from with_bytes
returns-clause-writes c = (refl, refl)
