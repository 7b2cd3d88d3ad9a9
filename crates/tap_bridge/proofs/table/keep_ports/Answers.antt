use Rattle.std.proofs.Common.{◌≡◌, sym, rules}
use Rattle.tap_bridge.specs.Bridge.{is_among}
use Rattle.tap_bridge.specs.declared.address.Seen.{Seen}
use Rattle.tap_bridge.proofs.Tables.{all_stay, filter_known}
use Rattle.tap_bridge.proofs.table.keep_ports.Goals as goal

pub returns-in_default-clause-entries : goal.returns-in_default-clause-entries
returns-in_default-clause-entries c =
    let same : c.args.kept.now.items ≡ c.args.ports.now = search rules in
    sym (all_stay (λ (s : Seen). is_among c.args.ports.now s.port) c.args.by_address.now c.requires.ordered
    (c.requires.at_ports same))

pub returns-in-Some-clause-at_ports : goal.returns-in-Some-clause-at_ports
returns-in-Some-clause-at_ports c =
    let same : c.in-Some.next.items ≡ c.args.ports.now = search rules in
    rw (same, c.drop_ports.ensures.entries)
    (filter_known (λ (s : Seen). is_among c.args.ports.now s.port) c.args.by_address.now.entries c.requires.ordered)
