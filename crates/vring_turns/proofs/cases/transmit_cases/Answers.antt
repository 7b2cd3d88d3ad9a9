use Rattle.std.proofs.Common.{refl}
use Rattle.guest_mem.specs.Memory.{is_there, look, gaps, first_bad, bytes_at, bytes_from, with_bytes}
use Rattle.vring_split.specs.Split.{desc_bytes, desc_of, used_elem_bytes}
use Rattle.vring_walk.specs.Chain.{desc_at}
use Rattle.vring_walk.specs.Fetch.{avail_idx, avail_head}
use Rattle.vring_walk.specs.Fetched.{path_end, path_from, fetched}
use Rattle.vhost_queue.specs.Publication.{field_at, with_field, with_entries, published_in, wants_notice, noticed_at}
use Rattle.vring_turns.proofs.cases.transmit_cases.Goals as goal

pub returns-clause-halt_at_second_fetch : goal.returns-clause-halt_at_second_fetch
unfolding is_there look gaps first_bad bytes_at bytes_from with_bytes desc_bytes desc_of desc_at avail_idx avail_head path_end path_from fetched field_at with_field with_entries published_in wants_notice noticed_at used_elem_bytes
returns-clause-halt_at_second_fetch c = (refl, refl, refl, refl, refl, refl)

pub returns-clause-chain_at_second_fetch : goal.returns-clause-chain_at_second_fetch
unfolding is_there look gaps first_bad bytes_at bytes_from with_bytes desc_bytes desc_of desc_at avail_idx avail_head path_end path_from fetched field_at with_field with_entries published_in wants_notice noticed_at used_elem_bytes
returns-clause-chain_at_second_fetch c = (refl, refl)

pub returns-clause-refused_between : goal.returns-clause-refused_between
unfolding is_there look gaps first_bad bytes_at bytes_from with_bytes desc_bytes desc_of desc_at avail_idx avail_head path_end path_from fetched field_at with_field with_entries published_in wants_notice noticed_at used_elem_bytes
returns-clause-refused_between c = (refl, refl, refl, refl)

pub returns-clause-no_notify_alone : goal.returns-clause-no_notify_alone
unfolding is_there look gaps first_bad bytes_at bytes_from with_bytes desc_bytes desc_of desc_at avail_idx avail_head path_end path_from fetched field_at with_field with_entries published_in wants_notice noticed_at used_elem_bytes
returns-clause-no_notify_alone c = (refl, refl, refl, refl, refl, refl)

pub returns-clause-no_interrupt : goal.returns-clause-no_interrupt
unfolding is_there look gaps first_bad bytes_at bytes_from with_bytes desc_bytes desc_of desc_at avail_idx avail_head path_end path_from fetched field_at with_field with_entries published_in wants_notice noticed_at used_elem_bytes
returns-clause-no_interrupt c = (refl, refl, refl)

pub returns-clause-notice_is_judged_last : goal.returns-clause-notice_is_judged_last
unfolding is_there look gaps first_bad bytes_at bytes_from with_bytes desc_bytes desc_of desc_at avail_idx avail_head path_end path_from fetched field_at with_field with_entries published_in wants_notice noticed_at used_elem_bytes
returns-clause-notice_is_judged_last c = (refl, refl)

pub returns-clause-enough_bytes : goal.returns-clause-enough_bytes
unfolding is_there look gaps first_bad bytes_at bytes_from with_bytes desc_bytes desc_of desc_at avail_idx avail_head path_end path_from fetched field_at with_field with_entries published_in wants_notice noticed_at used_elem_bytes
returns-clause-enough_bytes c = (refl, refl, refl, refl)

pub returns-clause-ten_bytes_of_header : goal.returns-clause-ten_bytes_of_header
unfolding is_there look gaps first_bad bytes_at bytes_from with_bytes desc_bytes desc_of desc_at avail_idx avail_head path_end path_from fetched field_at with_field with_entries published_in wants_notice noticed_at used_elem_bytes
returns-clause-ten_bytes_of_header c = (refl, refl)

pub returns-clause-refusals : goal.returns-clause-refusals
unfolding is_there look gaps first_bad bytes_at bytes_from with_bytes desc_bytes desc_of desc_at avail_idx avail_head path_end path_from fetched field_at with_field with_entries published_in wants_notice noticed_at used_elem_bytes
returns-clause-refusals c = (refl, refl, refl, refl, refl, refl)

pub returns-clause-long_is_refused : goal.returns-clause-long_is_refused
unfolding is_there look gaps first_bad bytes_at bytes_from with_bytes desc_bytes desc_of desc_at avail_idx avail_head path_end path_from fetched field_at with_field with_entries published_in wants_notice noticed_at used_elem_bytes
returns-clause-long_is_refused c = (refl, refl, refl)
