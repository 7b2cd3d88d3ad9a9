use Rattle.std.proofs.Common.{refl}
use Rattle.guest_mem.specs.Memory.{is_there, look, gaps, first_bad, bytes_at, with_bytes}
use Rattle.vring_packed.specs.Packed.{desc_bytes, desc_of}
use Rattle.vring_packed.specs.Chain.{desc_at, with_desc}
use Rattle.vring_packed.specs.Fetched.{chain_end, chain_from, fetched}
use Rattle.vring_packed.proofs.laws.worked_fetches.Goals as goal

pub returns-clause-fetched : goal.returns-clause-fetched
unfolding is_there look gaps first_bad bytes_at with_bytes desc_bytes desc_of desc_at with_desc chain_end chain_from fetched
returns-clause-fetched c = (refl, refl)

pub returns-clause-wrap : goal.returns-clause-wrap
unfolding is_there look gaps first_bad bytes_at with_bytes desc_bytes desc_of desc_at with_desc chain_end chain_from fetched
returns-clause-wrap c = refl

pub returns-clause-end : goal.returns-clause-end
unfolding is_there look gaps first_bad bytes_at with_bytes desc_bytes desc_of desc_at with_desc chain_end chain_from fetched
returns-clause-end c = refl

pub returns-clause-hostile : goal.returns-clause-hostile
unfolding is_there look gaps first_bad bytes_at with_bytes desc_bytes desc_of desc_at with_desc chain_end chain_from fetched
returns-clause-hostile c = refl

pub returns-clause-earlier : goal.returns-clause-earlier
unfolding is_there look gaps first_bad bytes_at with_bytes desc_bytes desc_of desc_at with_desc chain_end chain_from fetched
returns-clause-earlier c = refl
