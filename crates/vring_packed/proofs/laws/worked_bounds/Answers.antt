use Rattle.std.proofs.Common.{refl}
use Rattle.guest_mem.specs.Memory.{is_there, look, gaps, first_bad, bytes_at}
use Rattle.vring_packed.specs.Packed.{desc_bytes, desc_of}
use Rattle.vring_packed.specs.Chain.{desc_at, with_desc}
use Rattle.vring_packed.specs.Fetched.{chain_end, chain_from, fetched}
use Rattle.vring_packed.proofs.laws.worked_bounds.Goals as goal

pub returns-clause-tables : goal.returns-clause-tables
unfolding is_there look gaps first_bad bytes_at desc_bytes desc_of desc_at with_desc chain_end chain_from fetched
returns-clause-tables c = refl

pub returns-clause-segments : goal.returns-clause-segments
unfolding is_there look gaps first_bad bytes_at desc_bytes desc_of desc_at with_desc chain_end chain_from fetched
returns-clause-segments c = refl

pub returns-clause-direction : goal.returns-clause-direction
unfolding is_there look gaps first_bad bytes_at desc_bytes desc_of desc_at with_desc chain_end chain_from fetched
returns-clause-direction c = refl

pub returns-clause-ring : goal.returns-clause-ring
unfolding is_there look gaps first_bad bytes_at desc_bytes desc_of desc_at with_desc chain_end chain_from fetched
returns-clause-ring c = refl
