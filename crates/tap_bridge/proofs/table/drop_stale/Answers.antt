use Rattle.tap_bridge.proofs.Tables.{taken_part}
use Rattle.tap_bridge.proofs.table.drop_stale.Goals as goal

pub returns-then-not-is_young-clause-part : goal.returns-then-not-is_young-clause-part
returns-then-not-is_young-clause-part c =
    taken_part c.args.address c.args.by_address.now.entries c.remove.new.self.entries c.remove.ensures.updates.0
