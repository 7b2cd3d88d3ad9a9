use Rattle.std.proofs.Common.{◌≡◌, ◌<◌, drop}
use Rattle.packed_drive.specs.Posts.{linked}
use Rattle.packed_drive.proofs.write.link.Given as goal

-- what is left to write makes of the memory what all of it makes of the memory as it was
abbrev pub invariant-loop-i : goal.invariant-loop-i
invariant-loop-i l = record {
  linked : linked l.post.start l.post.num l.post.writable l.post.id l.place (drop l.i l.lens) l.mem
      ≡ linked l.post.start l.post.num l.post.writable l.post.id l.fn.first l.lens l.fn.mem;
  regions : l.mem.regions ≡ l.fn.mem.regions;
  inside : l.place.at < l.post.num;
}
