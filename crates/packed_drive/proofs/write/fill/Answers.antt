use Rattle.std.proofs.Common.{◌∙◌, sym, ap}
use Rattle.std.proofs.Math.ListN.{drop_of_length-le}
use Rattle.guest_mem.specs.Memory.{Contents}
use Rattle.packed_drive.proofs.Written.{filled_more, filled_none}
use Rattle.packed_drive.proofs.write.fill.Goals as goal

pub loop-len-preserved : goal.loop-len-preserved
loop-len-preserved c = record {
  filled = rw (c.after-place.ensures.place, c.write_in.ensures, c.slot_at.ensures, c.split_at.ensures.front, c.split_at.ensures.back, c.min.ensures)
      (filled_more c.args.start c.args.num c.loop-len.place c.args.lens.now c.loop-len.left.now c.loop-len.len-index 0 c.loop-len.mem c.loop-len-test.true
      ∙ c.loop-len.invariant.filled);
  regions = ap (λ (m : Contents). m.regions) c.write_in.ensures ∙ c.loop-len.invariant.regions;
  inside = c.after-place.ensures.inside;
}

pub returns-clause-filled : goal.returns-clause-filled
returns-clause-filled c =
    sym (filled_none _ _ _ _ _ _ (drop_of_length-le c.args.lens.now c.loop-len-test.false)) ∙ c.loop-len.invariant.filled
