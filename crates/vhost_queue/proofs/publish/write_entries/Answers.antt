use Rattle.std.proofs.Common.{◌∙◌, sym, ap}
use Rattle.std.proofs.Math.ListN.{drop_of_length-le}
use Rattle.guest_mem.specs.Memory.{Contents}
use Rattle.vhost_queue.proofs.Entries.{entries_more, entries_none}
use Rattle.vhost_queue.proofs.publish.write_entries.Goals as goal

pub loop-chain-preserved : goal.loop-chain-preserved
loop-chain-preserved c = record {
  entries = rw c.write_entry.ensures
      (entries_more _ _ c.args.done.now c.loop-chain.chain-index _ _ c.loop-chain-test.true ∙ c.loop-chain.invariant.entries);
  regions = ap (λ (m : Contents). m.regions) c.write_entry.ensures ∙ c.loop-chain.invariant.regions;
}

pub returns-clause-entries : goal.returns-clause-entries
returns-clause-entries c =
    sym (entries_none _ _ _ _ (drop_of_length-le c.args.done.now c.loop-chain-test.false)) ∙ c.loop-chain.invariant.entries
