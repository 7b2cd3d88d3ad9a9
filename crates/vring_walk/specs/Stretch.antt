-- This project's own: what a walk keeps at hand, the bytes of a table and the addresses in which it last found a range.
use Rattle.std.specs.Prelude.{◌≡◌, ℕ, ◌+◌, ◌*◌, nat_le, List, IsTrue}
use Rattle.guest_mem.specs.declared.region.Region.{Region}
use Rattle.guest_mem.specs.Memory.{is_in, covers, bytes_at}
use Rattle.vring_walk.specs.declared.table.Table.{Table}
use Rattle.vring_walk.specs.Chain.{Look}

-- all bytes of a table
abbrev pub table_bytes : Look → Table → List ℕ
table_bytes look t = bytes_at look t.addr (16 * t.entries)

-- a region tells whether a range that starts in it has bytes: exactly where it ends in it too
pub record TellsRanges (rs : List Region) (s : Region) : Type 0 where
  pub tells : (a n : ℕ) → IsTrue (is_in a s) → covers rs a n ≡ nat_le (a + n) (s.addr + s.len)
