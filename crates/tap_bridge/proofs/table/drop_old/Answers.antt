use Rattle.std.proofs.Common.{◌∙◌, ap, sym}
use Rattle.tap_bridge.specs.Bridge.{Table, young, is_young}
use Rattle.tap_bridge.proofs.Tables.{stale_gone, popped, part_trans, all_young, filter_fewer}
use Rattle.tap_bridge.proofs.table.drop_old.Goals as goal

pub loop-address-preserved : goal.loop-address-preserved
loop-address-preserved c =
    let now = c.args.now in
    let table = c.loop-address.by_address.entries in
    record {
      same = ap (λ (t : Table). young now t) c.drop_stale.ensures.entries ∙ stale_gone now c.in-Some.address table ∙ c.loop-address.invariant.same;
      ordered = c.drop_stale.ensures.ordered;
      timed = popped now c.loop-address.by_time.keys c.pop_old.new.by_time.keys (c.in-Some.field-0-0, c.in-Some.address) table
          c.drop_stale.new.by_address.entries c.in-Some.ensures.first c.in-Some.ensures.old c.drop_stale.ensures.part
          c.drop_stale.ensures.left c.loop-address.invariant.timed;
      part = part_trans c.args.by_address.now.entries table c.drop_stale.new.by_address.entries c.loop-address.invariant.part c.drop_stale.ensures.part;
    }

pub returns-clause-entries : goal.returns-clause-entries
returns-clause-entries c =
    sym (all_young c.args.now c.loop-address.by_time.keys c.loop-address.by_address c.loop-address.invariant.ordered
    c.loop-address.invariant.timed c.in_default.ensures.all_young) ∙ c.loop-address.invariant.same

pub returns-clause-fewer : goal.returns-clause-fewer
returns-clause-fewer c = rw (returns-clause-entries c) (filter_fewer (λ e. is_young c.args.now e.1.time) c.args.by_address.now.entries)
