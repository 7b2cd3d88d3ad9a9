use Rattle.std.proofs.Common.{◌≡◌, ◌≢◌, ◌∙◌, ap, sym, Some}
use Rattle.tap_bridge.specs.declared.address.Seen.{Seen}
use Rattle.tap_bridge.specs.Bridge.{found}
use Rattle.tap_bridge.specs.Kept.{StandAt}
use Rattle.tap_bridge.proofs.Tables.{time_put, address_put, time_taken, time_of_none, put_known, port_put}
use Rattle.tap_bridge.proofs.table.put.Goals as goal

pub returns-then-before-seen-clause-timed : goal.returns-then-before-seen-clause-timed
returns-then-before-seen-clause-timed c =
    let learnt = c.in-Ok-Some.ensures.updates.0 in
    let put : StandAt c.insert.new.self.keys c.insert-2.new.self.entries =
    address_put c.args.address c.args.seen c.args.by_time.now.keys c.insert.new.self.keys c.args.by_address.now.entries
    c.insert-2.new.self.entries c.requires.timed c.in_ok-insert.ensures.updates.0 c.in-Ok-Some.ensures.updates.0 in
    let known : found c.args.address c.insert-2.new.self.entries ≡ Some c.args.seen =
    put_known c.args.address c.args.seen c.args.by_address.now.entries c.insert-2.new.self.entries learnt in
    let apart : c.in-Ok-Some.before.time ≢ c.args.seen.time = c.if-before-seen.true in
    time_taken c.args.address c.in-Ok-Some.before.time c.insert.new.self.keys c.remove.new.self.keys c.insert-2.new.self.entries
    put c.remove.ensures.updates.0
    (λ s h. let same : Some c.args.seen ≡ Some s = sym known ∙ h in
    let one : c.args.seen ≡ s = cc in
    λ e. apart (e ∙ ap (λ (x : Seen). x.time) (sym one)))

pub returns-else-before-seen-clause-timed : goal.returns-else-before-seen-clause-timed
returns-else-before-seen-clause-timed c =
    address_put c.args.address c.args.seen c.args.by_time.now.keys c.insert.new.self.keys c.args.by_address.now.entries
    c.insert-2.new.self.entries c.requires.timed c.in_ok-insert.ensures.updates.0 c.in-Ok-Some.ensures.updates.0

pub returns-in-Ok-None-clause-timed : goal.returns-in-Ok-None-clause-timed
returns-in-Ok-None-clause-timed c =
    address_put c.args.address c.args.seen c.args.by_time.now.keys c.insert.new.self.keys c.args.by_address.now.entries
    c.insert-2.new.self.entries c.requires.timed c.in_ok-insert.ensures.updates.0 c.in-Ok-None.ensures.updates.0

pub returns-then-before-seen-clause-at_ports : goal.returns-then-before-seen-clause-at_ports
returns-then-before-seen-clause-at_ports c ports here at =
    port_put c.args.address c.args.seen ports c.args.by_address.now.entries c.insert-2.new.self.entries c.in-Ok-Some.ensures.updates.0 here at

pub returns-else-before-seen-clause-at_ports : goal.returns-else-before-seen-clause-at_ports
returns-else-before-seen-clause-at_ports c ports here at =
    port_put c.args.address c.args.seen ports c.args.by_address.now.entries c.insert-2.new.self.entries c.in-Ok-Some.ensures.updates.0 here at

pub returns-in-Ok-None-clause-at_ports : goal.returns-in-Ok-None-clause-at_ports
returns-in-Ok-None-clause-at_ports c ports here at =
    port_put c.args.address c.args.seen ports c.args.by_address.now.entries c.insert-2.new.self.entries c.in-Ok-None.ensures.updates.0 here at

pub returns-in-Err-clause-timed : goal.returns-in-Err-clause-timed
returns-in-Err-clause-timed c =
    let same : c.insert-2.new.self.entries ≡ c.args.by_address.now.entries = c.in-Err.ensures.err in
    let put = time_put c.args.address c.args.seen.time c.args.by_time.now.keys c.insert.new.self.keys c.args.by_address.now.entries
    c.requires.timed c.in_ok-insert.ensures.updates.0 in
    rw same (time_of_none c.args.address c.args.seen.time c.insert.new.self.keys c.remove-in-Err.new.self.keys
    c.args.by_address.now.entries put c.remove-in-Err.ensures.updates.0 c.in-Err.ensures.absent)
