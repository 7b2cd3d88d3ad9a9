use Rattle.std.proofs.Common.{◌≡◌, ◌<◌, drop}
use Rattle.packed_drive.specs.Posts.{filled}
use Rattle.packed_drive.proofs.write.fill.Given as goal

-- what is left to write makes of the memory what all of it makes of the memory as it was
abbrev pub invariant-loop-len : goal.invariant-loop-len
invariant-loop-len l = record {
  filled : filled l.start l.num l.place (drop l.len-index l.lens) l.left l.mem ≡ filled l.start l.num l.fn.first l.lens l.bytes l.fn.mem;
  regions : l.mem.regions ≡ l.fn.mem.regions;
  inside : l.place.at < l.num;
}
