use Rattle.std.proofs.Common.{◌∙◌, sym}
use Rattle.std.proofs.Math.ListN.{drop_of_length-le}
use Rattle.packed_drive.proofs.Written.{linked_more, linked_none}
use Rattle.packed_drive.proofs.write.link.Goals as goal

pub loop-i-preserved : goal.loop-i-preserved
loop-i-preserved c = record {
  linked = rw (c.after-place.ensures.place, c.write_desc.ensures.written)
      (linked_more c.args.post.now.start c.args.post.now.num c.args.post.now.writable c.args.post.now.id c.loop-i.place c.args.lens.now c.loop-i.i 0 c.loop-i.mem c.loop-i-test.true
      ∙ c.loop-i.invariant.linked);
  regions = c.write_desc.ensures.regions ∙ c.loop-i.invariant.regions;
  inside = c.after-place.ensures.inside;
}

pub returns-clause-linked : goal.returns-clause-linked
returns-clause-linked c =
    sym (linked_none _ _ _ _ _ _ _ (drop_of_length-le c.args.lens.now c.loop-i-test.false)) ∙ c.loop-i.invariant.linked
