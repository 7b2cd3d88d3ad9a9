use Rattle.std.proofs.Common.{refl}
use Rattle.guest_mem.specs.Memory.{is_there, look, gaps, first_bad, bytes_at, with_bytes}
use Rattle.vring_split.specs.Split.{desc_bytes, desc_of}
use Rattle.vring_walk.specs.Chain.{desc_at}
use Rattle.vring_walk.specs.Fetch.{avail_idx, avail_head}
use Rattle.vring_walk.specs.Fetched.{path_end, path_from, fetched}
use Rattle.vring_walk.proofs.laws.worked_examples.Goals as goal

pub returns-clause-hostile : goal.returns-clause-hostile
unfolding is_there look gaps first_bad bytes_at with_bytes desc_bytes desc_of desc_at avail_idx avail_head path_end path_from fetched
returns-clause-hostile c = refl

pub returns-clause-wraps : goal.returns-clause-wraps
unfolding is_there look gaps first_bad bytes_at with_bytes desc_bytes desc_of desc_at avail_idx avail_head path_end path_from fetched
returns-clause-wraps c = (refl, refl)
