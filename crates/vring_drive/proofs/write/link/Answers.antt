use Rattle.std.proofs.Common.{◌∙◌, sym, ap, arith}
use Rattle.std.proofs.Math.ListN.{drop_of_length-le}
use Rattle.guest_mem.specs.Memory.{Contents}
use Rattle.vring_drive.proofs.Written.{linked_more, linked_none}
use Rattle.vring_drive.proofs.write.link.Goals as goal

pub loop-i-preserved : goal.loop-i-preserved
loop-i-preserved c = record {
  linked = rw (c.write_in.ensures, c.desc_addr.ensures, c.bytes.ensures.value, c.desc_for-desc.ensures)
      (linked_more c.args.ring.now c.args.writable c.args.chain.now c.args.lens.now c.loop-i.i 0 0 c.loop-i.mem c.loop-i-test.true (omega arith)
      ∙ c.loop-i.invariant.linked);
  regions = ap (λ (m : Contents). m.regions) c.write_in.ensures ∙ c.loop-i.invariant.regions;
}

pub returns-clause-linked : goal.returns-clause-linked
returns-clause-linked c =
    sym (linked_none _ _ _ _ _ (drop_of_length-le c.args.chain.now c.loop-i-test.false)) ∙ c.loop-i.invariant.linked
