-- This project's own: the heads of the rings in which nodes stand.
use Rattle.std.specs.Prelude.{ℕ, ◌+◌, ◌%◌}
use Rattle.tap_flows.specs.declared.heads.TheConstants.{BUCKETS}

-- the head of the ring of a hash's bucket, where there are so many nodes
abbrev pub bucket_head : ℕ → ℕ → ℕ
bucket_head nodes hash = nodes + hash % BUCKETS

-- the head of the ring of free nodes
abbrev pub free_head : ℕ → ℕ
free_head nodes = nodes + BUCKETS
