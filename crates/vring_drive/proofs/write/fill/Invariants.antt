use Rattle.std.proofs.Common.{◌≡◌, drop}
use Rattle.vring_drive.specs.Posts.{filled}
use Rattle.vring_drive.proofs.write.fill.Given as goal

-- what is left to write makes of the memory what all of it makes of the memory as it was
abbrev pub invariant-loop-index : goal.invariant-loop-index
invariant-loop-index l = record {
  filled : filled l.ring (drop l.index-index l.chain) l.left l.mem ≡ filled l.ring l.chain l.bytes l.fn.mem;
  regions : l.mem.regions ≡ l.fn.mem.regions;
}
