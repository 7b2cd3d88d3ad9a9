use lib.Count.{ones}
use Rattle.std.proofs.Common.{refl}
use Rattle.guest_mem.specs.Memory.{gaps, first_bad, is_there, look, bytes_at, bytes_from, with_bytes}
use Rattle.vring_split.specs.Split.{desc_bytes, desc_of, used_elem_of, used_elem_bytes}
use Rattle.vring_walk.specs.Chain.{desc_at}
use Rattle.vring_walk.specs.Fetch.{avail_idx, avail_head}
use Rattle.vring_walk.specs.Fetched.{path_end, path_from, fetched}
use Rattle.vhost_queue.specs.Publication as q
use Rattle.vring_drive.specs.Area.{with_field, field_at}
use Rattle.vring_drive.specs.Posts.{offered, linked, filled}
use Rattle.vring_drive.specs.Harvests.{harvest_of, used_entry}
use Rattle.example_rings.proofs.usual.Goals as goal

pub returns-clause-addresses : goal.returns-clause-addresses
unfolding ones gaps first_bad is_there look bytes_at bytes_from with_bytes with_field field_at q.published_in q.with_entries q.wants_notice offered linked filled desc_bytes desc_of harvest_of used_entry used_elem_of used_elem_bytes desc_at avail_idx avail_head path_end path_from fetched
returns-clause-addresses c = (refl, refl, refl)

pub returns-clause-found : goal.returns-clause-found
unfolding ones gaps first_bad is_there look bytes_at bytes_from with_bytes with_field field_at q.published_in q.with_entries q.wants_notice offered linked filled desc_bytes desc_of harvest_of used_entry used_elem_of used_elem_bytes desc_at avail_idx avail_head path_end path_from fetched
returns-clause-found c = (refl, refl, refl, refl)

pub returns-clause-harvested : goal.returns-clause-harvested
unfolding ones gaps first_bad is_there look bytes_at bytes_from with_bytes with_field field_at q.published_in q.with_entries q.wants_notice offered linked filled desc_bytes desc_of harvest_of used_entry used_elem_of used_elem_bytes desc_at avail_idx avail_head path_end path_from fetched
returns-clause-harvested c = (refl, refl, refl, refl)
