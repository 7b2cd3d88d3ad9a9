use Rattle.std.proofs.Common.{◌≡◌, drop}
use Rattle.vring_drive.specs.Posts.{linked}
use Rattle.vring_drive.proofs.write.link.Given as goal

-- what is left to write makes of the memory what all of it makes of the memory as it was
abbrev pub invariant-loop-i : goal.invariant-loop-i
invariant-loop-i l = record {
  linked : linked l.ring l.writable (drop l.i l.chain) (drop l.i l.lens) l.mem ≡ linked l.ring l.writable l.chain l.lens l.fn.mem;
  regions : l.mem.regions ≡ l.fn.mem.regions;
}
