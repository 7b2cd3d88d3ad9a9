use Rattle.std.proofs.Common.{refl}
use Rattle.guest_mem.specs.Memory.{is_there, look, gaps, first_bad, bytes_at, bytes_from, with_bytes}
use Rattle.vring_split.specs.Split.{desc_bytes, desc_of, used_elem_bytes}
use Rattle.vring_walk.specs.Chain.{desc_at}
use Rattle.vring_walk.specs.Fetch.{avail_idx, avail_head}
use Rattle.vring_walk.specs.Fetched.{path_end, path_from, fetched}
use Rattle.vhost_queue.specs.Publication.{field_at, with_field, with_entries, published_in, wants_notice, noticed_at}
use Rattle.vring_turns.proofs.laws.receive_examples.Goals as goal

pub returns-clause-two_chains : goal.returns-clause-two_chains
unfolding is_there look gaps first_bad bytes_at bytes_from with_bytes desc_bytes desc_of desc_at avail_idx avail_head path_end path_from fetched field_at with_field with_entries published_in wants_notice noticed_at used_elem_bytes
returns-clause-two_chains c = (refl, refl, refl, refl, refl)

pub returns-clause-short : goal.returns-clause-short
unfolding is_there look gaps first_bad bytes_at bytes_from with_bytes desc_bytes desc_of desc_at avail_idx avail_head path_end path_from fetched field_at with_field with_entries published_in wants_notice noticed_at used_elem_bytes
returns-clause-short c = (refl, refl, refl, refl, refl)

pub returns-clause-overrun : goal.returns-clause-overrun
unfolding is_there look gaps first_bad bytes_at bytes_from with_bytes desc_bytes desc_of desc_at avail_idx avail_head path_end path_from fetched field_at with_field with_entries published_in wants_notice noticed_at used_elem_bytes
returns-clause-overrun c = (refl, refl, refl, refl)

pub returns-clause-stopped : goal.returns-clause-stopped
unfolding is_there look gaps first_bad bytes_at bytes_from with_bytes desc_bytes desc_of desc_at avail_idx avail_head path_end path_from fetched field_at with_field with_entries published_in wants_notice noticed_at used_elem_bytes
returns-clause-stopped c = (refl, refl, refl)

pub returns-clause-none : goal.returns-clause-none
unfolding is_there look gaps first_bad bytes_at bytes_from with_bytes desc_bytes desc_of desc_at avail_idx avail_head path_end path_from fetched field_at with_field with_entries published_in wants_notice noticed_at used_elem_bytes
returns-clause-none c = refl
