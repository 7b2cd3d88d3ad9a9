use Rattle.std.proofs.Common.{refl}
use Rattle.guest_mem.specs.Memory.{bytes_from, with_bytes}
use Rattle.vring_split.specs.Split.{used_elem_bytes}
use Rattle.vhost_queue.specs.Publication.{published_in, with_field, field_at, with_entries, wants_notice, noticed_at}
use Rattle.example_rings.proofs.serving.Goals as goal

pub returns-clause-notices : goal.returns-clause-notices
unfolding published_in with_field field_at with_bytes bytes_from with_entries used_elem_bytes wants_notice noticed_at
returns-clause-notices c = (refl, refl, refl, refl)

pub returns-clause-two_chains : goal.returns-clause-two_chains
unfolding published_in with_field field_at with_bytes bytes_from with_entries used_elem_bytes wants_notice noticed_at
returns-clause-two_chains c = (refl, refl, refl, refl, refl, refl)

pub returns-clause-rewound : goal.returns-clause-rewound
unfolding published_in with_field field_at with_bytes bytes_from with_entries used_elem_bytes wants_notice noticed_at
returns-clause-rewound c = (refl, refl, refl)

pub returns-clause-positions : goal.returns-clause-positions
unfolding published_in with_field field_at with_bytes bytes_from with_entries used_elem_bytes wants_notice noticed_at
returns-clause-positions c = (refl, refl, refl, refl)
