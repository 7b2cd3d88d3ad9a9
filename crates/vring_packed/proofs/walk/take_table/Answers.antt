use Rattle.std.proofs.Common.{rules, ◌≡◌, arith}
use Rattle.std.specs.Prelude.{Err}
use Rattle.guest_mem.specs.Memory.{byte_at, covers}
use Rattle.vring_packed.specs.Chain.{table_of, with_entries}
use Rattle.vring_packed.proofs.Steps.{table_fails, table_taken}
use Rattle.vring_packed.proofs.walk.take_table.Goals as goal

pub returns-in_err-take_segment-clause-fault : goal.returns-in_err-take_segment-clause-fault
returns-in_err-take_segment-clause-fault c =
    let fails : with_entries (covers c.args.mem.now.regions) c.args.ring.now (table_of (byte_at c.args.mem.now) c.args.desc.now) c.args.met.now ≡ Err c.in_err-take_segment.field-0.0 =
    table_fails (byte_at c.args.mem.now) (covers c.args.mem.now.regions) c.args.ring.now c.args.desc.now.addr c.loop-index.index _ c.desc_at-entry.result c.loop-index.met _ c.loop-index-test.true c.desc_at-entry.ensures c.loop-index.invariant.left _ c.in_err-take_segment.ensures.fault in
    search rules

pub loop-index-preserved : goal.loop-index-preserved
loop-index-preserved c = record {
  left = table_taken (byte_at c.args.mem.now) (covers c.args.mem.now.regions) c.args.ring.now c.args.desc.now.addr c.loop-index.index _ c.desc_at-entry.result c.loop-index.met _ c.loop-index-test.true c.desc_at-entry.ensures c.loop-index.invariant.left _ c.in_ok-take_segment.ensures.taken;
  within = let h = c.loop-index-test.true in omega arith;
}
