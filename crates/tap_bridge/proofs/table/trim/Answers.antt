use Rattle.tap_bridge.proofs.Tables.{taken_part, time_of_none}
use Rattle.tap_bridge.proofs.table.trim.Goals as goal

pub returns-then-is_over-clause-part : goal.returns-then-is_over-clause-part
returns-then-is_over-clause-part c =
    taken_part c.source-address.result c.args.by_address.now.entries c.remove.new.self.entries c.remove.ensures.updates.0

pub returns-then-is_over-clause-timed : goal.returns-then-is_over-clause-timed
returns-then-is_over-clause-timed c =
    let part = returns-then-is_over-clause-part c in
    time_of_none c.source-address.result c.args.now c.args.by_time.now.keys c.remove-then-is_over.new.self.keys c.remove.new.self.entries
    (λ a s h. c.requires.timed a s (part a s h)) c.remove-then-is_over.ensures.updates.0 c.remove.ensures.updates.1
