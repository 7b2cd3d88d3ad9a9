use Rattle.std.proofs.Common.{refl}
use Rattle.guest_mem.specs.Memory.{is_there, look, gaps, first_bad, bytes_at, bytes_from, with_bytes}
use Rattle.vring_split.specs.Split.{desc_bytes, desc_of, used_elem_bytes}
use Rattle.vring_walk.specs.Chain.{desc_at}
use Rattle.vring_walk.specs.Fetch.{avail_idx, avail_head}
use Rattle.vring_walk.specs.Fetched.{path_end, path_from, fetched}
use Rattle.vhost_queue.specs.Publication.{field_at, with_field, with_entries, published_in, wants_notice, noticed_at}
use Rattle.vring_turns.proofs.cases.publishing_examples.Goals as goal

pub returns-clause-enough_chains : goal.returns-clause-enough_chains
unfolding is_there look gaps first_bad bytes_at bytes_from with_bytes desc_bytes desc_of desc_at avail_idx avail_head path_end path_from fetched field_at with_field with_entries published_in wants_notice noticed_at used_elem_bytes
returns-clause-enough_chains c = (refl, refl, refl)

pub returns-clause-enough_bytes_or_packets : goal.returns-clause-enough_bytes_or_packets
unfolding is_there look gaps first_bad bytes_at bytes_from with_bytes desc_bytes desc_of desc_at avail_idx avail_head path_end path_from fetched field_at with_field with_entries published_in wants_notice noticed_at used_elem_bytes
returns-clause-enough_bytes_or_packets c = (refl, refl, refl, refl, refl)

pub returns-clause-published_by64 : goal.returns-clause-published_by64
unfolding is_there look gaps first_bad bytes_at bytes_from with_bytes desc_bytes desc_of desc_at avail_idx avail_head path_end path_from fetched field_at with_field with_entries published_in wants_notice noticed_at used_elem_bytes
returns-clause-published_by64 c = (refl, refl, refl, refl, refl)

pub returns-clause-overrun_then_guest : goal.returns-clause-overrun_then_guest
unfolding is_there look gaps first_bad bytes_at bytes_from with_bytes desc_bytes desc_of desc_at avail_idx avail_head path_end path_from fetched field_at with_field with_entries published_in wants_notice noticed_at used_elem_bytes
returns-clause-overrun_then_guest c = (refl, refl, refl, refl)

pub returns-clause-done_then_put_back : goal.returns-clause-done_then_put_back
unfolding is_there look gaps first_bad bytes_at bytes_from with_bytes desc_bytes desc_of desc_at avail_idx avail_head path_end path_from fetched field_at with_field with_entries published_in wants_notice noticed_at used_elem_bytes
returns-clause-done_then_put_back c = (refl, refl, refl, refl, refl, refl, refl, refl)

pub returns-clause-cut_frame_goes_cut : goal.returns-clause-cut_frame_goes_cut
unfolding is_there look gaps first_bad bytes_at bytes_from with_bytes desc_bytes desc_of desc_at avail_idx avail_head path_end path_from fetched field_at with_field with_entries published_in wants_notice noticed_at used_elem_bytes
returns-clause-cut_frame_goes_cut c = (refl, refl, refl)

pub returns-clause-no_count_of_buffers : goal.returns-clause-no_count_of_buffers
unfolding is_there look gaps first_bad bytes_at bytes_from with_bytes desc_bytes desc_of desc_at avail_idx avail_head path_end path_from fetched field_at with_field with_entries published_in wants_notice noticed_at used_elem_bytes
returns-clause-no_count_of_buffers c = (refl, refl, refl, refl, refl)

pub returns-clause-positions_wrap : goal.returns-clause-positions_wrap
unfolding is_there look gaps first_bad bytes_at bytes_from with_bytes desc_bytes desc_of desc_at avail_idx avail_head path_end path_from fetched field_at with_field with_entries published_in wants_notice noticed_at used_elem_bytes
returns-clause-positions_wrap c = (refl, refl, refl, refl)
