use Rattle.std.proofs.Common.{◌≡◌, drop}
use Rattle.vhost_queue.specs.Publication.{with_entries}
use Rattle.vhost_queue.proofs.publish.write_entries.Given as goal

-- what is left to write makes of the memory what all of it makes of the memory as it was
abbrev pub invariant-loop-chain : goal.invariant-loop-chain
invariant-loop-chain l = record {
  entries : with_entries l.ring l.index (drop l.chain-index l.done) l.mem ≡ with_entries l.ring l.used l.done l.fn.mem;
  regions : l.mem.regions ≡ l.fn.mem.regions;
}
