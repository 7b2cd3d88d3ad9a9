use lib.Count.{ones}
use Rattle.std.proofs.Common.{refl}
use Rattle.guest_mem.specs.Memory.{gaps, first_bad, bytes_from}
use Rattle.vhost_queue.specs.Publication.{field_at}
use Rattle.vhost_dev.proofs.laws.worked_examples.Goals as goal

pub returns-clause-numbers : goal.returns-clause-numbers
unfolding gaps first_bad ones
returns-clause-numbers c = refl

pub returns-clause-addresses : goal.returns-clause-addresses
unfolding gaps first_bad ones
returns-clause-addresses c = refl

pub returns-clause-busy : goal.returns-clause-busy
unfolding gaps first_bad ones bytes_from field_at
returns-clause-busy c = refl

pub returns-clause-usual : goal.returns-clause-usual
unfolding gaps first_bad ones bytes_from field_at
returns-clause-usual c = (refl, refl, refl, refl, refl, refl, refl)
