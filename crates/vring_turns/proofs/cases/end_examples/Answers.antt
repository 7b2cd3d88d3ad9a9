use Rattle.std.proofs.Common.{refl}
use Rattle.guest_mem.specs.Memory.{is_there, look, gaps, first_bad, bytes_at, bytes_from, with_bytes}
use Rattle.vring_split.specs.Split.{desc_bytes, desc_of, used_elem_bytes}
use Rattle.vring_walk.specs.Chain.{desc_at}
use Rattle.vring_walk.specs.Fetch.{avail_idx, avail_head}
use Rattle.vring_walk.specs.Fetched.{path_end, path_from, fetched}
use Rattle.vhost_queue.specs.Publication.{field_at, with_field, with_entries, published_in, wants_notice, noticed_at}
use Rattle.vring_turns.proofs.cases.end_examples.Goals as goal

pub returns-clause-transmit : goal.returns-clause-transmit
unfolding is_there look gaps first_bad bytes_at bytes_from with_bytes desc_bytes desc_of desc_at avail_idx avail_head path_end path_from fetched field_at with_field with_entries published_in wants_notice noticed_at used_elem_bytes
returns-clause-transmit c = (refl, refl, refl)

pub returns-clause-receive : goal.returns-clause-receive
unfolding is_there look gaps first_bad bytes_at bytes_from with_bytes desc_bytes desc_of desc_at avail_idx avail_head path_end path_from fetched field_at with_field with_entries published_in wants_notice noticed_at used_elem_bytes
returns-clause-receive c = (refl, refl)

pub returns-clause-line : goal.returns-clause-line
returns-clause-line c = refl
