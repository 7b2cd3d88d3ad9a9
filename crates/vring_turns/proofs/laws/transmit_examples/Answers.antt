use Rattle.std.proofs.Common.{refl}
use Rattle.guest_mem.specs.Memory.{is_there, look, gaps, first_bad, bytes_at, bytes_from, with_bytes}
use Rattle.vring_split.specs.Split.{desc_bytes, desc_of, used_elem_bytes}
use Rattle.vring_walk.specs.Chain.{desc_at}
use Rattle.vring_walk.specs.Fetch.{avail_idx, avail_head}
use Rattle.vring_walk.specs.Fetched.{path_end, path_from, fetched}
use Rattle.vhost_queue.specs.Publication.{field_at, with_field, with_entries, published_in, wants_notice, noticed_at}
use Rattle.vring_turns.proofs.laws.transmit_examples.Goals as goal

pub returns-clause-one : goal.returns-clause-one
unfolding is_there look gaps first_bad bytes_at bytes_from with_bytes desc_bytes desc_of desc_at avail_idx avail_head path_end path_from fetched field_at with_field with_entries published_in wants_notice noticed_at used_elem_bytes
returns-clause-one c = (refl, refl, refl, refl, refl)

pub returns-clause-none : goal.returns-clause-none
unfolding is_there look gaps first_bad bytes_at bytes_from with_bytes desc_bytes desc_of desc_at avail_idx avail_head path_end path_from fetched field_at with_field with_entries published_in wants_notice noticed_at used_elem_bytes
returns-clause-none c = (refl, refl)

pub returns-clause-halt : goal.returns-clause-halt
unfolding is_there look gaps first_bad bytes_at bytes_from with_bytes desc_bytes desc_of desc_at avail_idx avail_head path_end path_from fetched field_at with_field with_entries published_in wants_notice noticed_at used_elem_bytes
returns-clause-halt c = (refl, refl, refl, refl)

pub returns-clause-refused : goal.returns-clause-refused
unfolding is_there look gaps first_bad bytes_at bytes_from with_bytes desc_bytes desc_of desc_at avail_idx avail_head path_end path_from fetched field_at with_field with_entries published_in wants_notice noticed_at used_elem_bytes
returns-clause-refused c = (refl, refl, refl)

pub returns-clause-many : goal.returns-clause-many
unfolding is_there look gaps first_bad bytes_at bytes_from with_bytes desc_bytes desc_of desc_at avail_idx avail_head path_end path_from fetched field_at with_field with_entries published_in wants_notice noticed_at used_elem_bytes
returns-clause-many c = (refl, refl, refl, refl)
