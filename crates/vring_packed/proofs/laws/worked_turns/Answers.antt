use Rattle.std.proofs.Common.{refl}
use Rattle.guest_mem.specs.Memory.{with_bytes, bytes_from}
use Rattle.vhost_queue.specs.Publication.{field_at}
use Rattle.vring_packed.specs.Publication.{used_bytes, with_used, wants_notice}
use Rattle.vring_packed.proofs.laws.worked_turns.Goals as goal

pub returns-clause-published : goal.returns-clause-published
unfolding with_bytes used_bytes with_used
returns-clause-published c = (refl, refl, refl)

pub returns-clause-notices : goal.returns-clause-notices
unfolding with_bytes bytes_from field_at wants_notice
returns-clause-notices c = (refl, refl)

pub returns-clause-nothing : goal.returns-clause-nothing
unfolding with_bytes bytes_from field_at wants_notice
returns-clause-nothing c = (refl, refl, refl)

pub returns-clause-rewound : goal.returns-clause-rewound
returns-clause-rewound c = (refl, refl, refl)
