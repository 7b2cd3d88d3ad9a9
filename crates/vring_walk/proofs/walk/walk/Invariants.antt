use Rattle.std.proofs.Common.{◌≡◌}
use Rattle.guest_mem.specs.Memory.{byte_at, covers}
use Rattle.vring_walk.specs.Stretch.{table_bytes, TellsRanges}
use Rattle.vring_walk.proofs.Walks.{Walked}
use Rattle.vring_walk.proofs.walk.walk.Given as goal

abbrev pub invariant-loop : goal.invariant-loop
invariant-loop l = record {
  walked : Walked (byte_at l.mem) (covers l.mem.regions) l.ring l.head l.fn.room (record { table = l.table; index = l.index }) l.met l.room l.counter;
  bytes : l.bytes ≡ table_bytes (byte_at l.mem) l.table;
  near : TellsRanges l.mem.regions l.near;
}
