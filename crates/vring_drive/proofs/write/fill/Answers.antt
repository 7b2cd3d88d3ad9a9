use Rattle.std.proofs.Common.{◌∙◌, sym, ap}
use Rattle.std.proofs.Math.ListN.{drop_of_length-le}
use Rattle.guest_mem.specs.Memory.{Contents}
use Rattle.vring_drive.proofs.Written.{filled_more, filled_none}
use Rattle.vring_drive.proofs.write.fill.Goals as goal

pub loop-index-preserved : goal.loop-index-preserved
loop-index-preserved c = record {
  filled = rw (c.write_in.ensures, c.slot_at.ensures, c.split_at.ensures.front, c.split_at.ensures.back, c.min.ensures)
      (filled_more c.args.ring.now c.args.chain.now c.loop-index.left.now c.loop-index.index-index 0 c.loop-index.mem c.loop-index-test.true
      ∙ c.loop-index.invariant.filled);
  regions = ap (λ (m : Contents). m.regions) c.write_in.ensures ∙ c.loop-index.invariant.regions;
}

pub returns-clause-filled : goal.returns-clause-filled
returns-clause-filled c =
    sym (filled_none _ _ _ _ (drop_of_length-le c.args.chain.now c.loop-index-test.false)) ∙ c.loop-index.invariant.filled
