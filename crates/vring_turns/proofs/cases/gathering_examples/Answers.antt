use Rattle.std.proofs.Common.{refl}
use Rattle.guest_mem.specs.Memory.{is_there, look, gaps, first_bad, bytes_at, bytes_from, with_bytes}
use Rattle.vring_split.specs.Split.{desc_bytes, desc_of, used_elem_bytes}
use Rattle.vring_walk.specs.Chain.{desc_at}
use Rattle.vring_walk.specs.Fetch.{avail_idx, avail_head}
use Rattle.vring_walk.specs.Fetched.{path_end, path_from, fetched}
use Rattle.vhost_queue.specs.Publication.{field_at, with_field, with_entries, published_in, wants_notice, noticed_at}
use Rattle.vring_turns.proofs.cases.gathering_examples.Goals as goal

pub returns-clause-still_too_short : goal.returns-clause-still_too_short
unfolding is_there look gaps first_bad bytes_at bytes_from with_bytes desc_bytes desc_of desc_at avail_idx avail_head path_end path_from fetched field_at with_field with_entries published_in wants_notice noticed_at used_elem_bytes
returns-clause-still_too_short c = (refl, refl, refl, refl, refl)

pub returns-clause-late_chain_takes_it : goal.returns-clause-late_chain_takes_it
unfolding is_there look gaps first_bad bytes_at bytes_from with_bytes desc_bytes desc_of desc_at avail_idx avail_head path_end path_from fetched field_at with_field with_entries published_in wants_notice noticed_at used_elem_bytes
returns-clause-late_chain_takes_it c = (refl, refl)

pub returns-clause-overrun_at_second_fetch : goal.returns-clause-overrun_at_second_fetch
unfolding is_there look gaps first_bad bytes_at bytes_from with_bytes desc_bytes desc_of desc_at avail_idx avail_head path_end path_from fetched field_at with_field with_entries published_in wants_notice noticed_at used_elem_bytes
returns-clause-overrun_at_second_fetch c = (refl, refl, refl)

pub returns-clause-crowded_after_two : goal.returns-clause-crowded_after_two
unfolding is_there look gaps first_bad bytes_at bytes_from with_bytes desc_bytes desc_of desc_at avail_idx avail_head path_end path_from fetched field_at with_field with_entries published_in wants_notice noticed_at used_elem_bytes
returns-clause-crowded_after_two c = (refl, refl, refl, refl)

pub returns-clause-crowded_at_second_fetch : goal.returns-clause-crowded_at_second_fetch
unfolding is_there look gaps first_bad bytes_at bytes_from with_bytes desc_bytes desc_of desc_at avail_idx avail_head path_end path_from fetched field_at with_field with_entries published_in wants_notice noticed_at used_elem_bytes
returns-clause-crowded_at_second_fetch c = (refl, refl, refl)

pub returns-clause-just_fits : goal.returns-clause-just_fits
unfolding is_there look gaps first_bad bytes_at bytes_from with_bytes desc_bytes desc_of desc_at avail_idx avail_head path_end path_from fetched field_at with_field with_entries published_in wants_notice noticed_at used_elem_bytes
returns-clause-just_fits c = (refl, refl, refl, refl)

pub returns-clause-quota_overruns : goal.returns-clause-quota_overruns
unfolding is_there look gaps first_bad bytes_at bytes_from with_bytes desc_bytes desc_of desc_at avail_idx avail_head path_end path_from fetched field_at with_field with_entries published_in wants_notice noticed_at used_elem_bytes
returns-clause-quota_overruns c = (refl, refl, refl)

pub returns-clause-jump_stops : goal.returns-clause-jump_stops
unfolding is_there look gaps first_bad bytes_at bytes_from with_bytes desc_bytes desc_of desc_at avail_idx avail_head path_end path_from fetched field_at with_field with_entries published_in wants_notice noticed_at used_elem_bytes
returns-clause-jump_stops c = (refl, refl, refl, refl)
