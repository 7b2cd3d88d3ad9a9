use Rattle.std.proofs.Common.{◌≡◌, ◌-◌, ◌≤◌}
use Rattle.guest_mem.specs.Memory.{byte_at, covers}
use Rattle.vring_packed.specs.Chain.{entries_from, table_of, with_entries}
use Rattle.vring_packed.proofs.walk.take_table.Given as goal

-- what is left to take makes of the segments now what all of the table makes of the segments as they were
abbrev pub invariant-loop-index : goal.invariant-loop-index
invariant-loop-index l = record {
  left : with_entries (covers l.mem.regions) l.ring (entries_from (byte_at l.mem) l.desc.addr l.index (l.entries - l.index)) l.met
      ≡ with_entries (covers l.mem.regions) l.ring (table_of (byte_at l.mem) l.desc) l.fn.met;
  within : l.index ≤ l.entries;
}
