use Rattle.std.proofs.Common.{rules}
use Rattle.std.proofs.lemmas.Map.Made.{filter_same_pairs}
use Rattle.tap_bridge.specs.Bridge.{is_among}
use Rattle.tap_bridge.specs.declared.address.Seen.{Seen}
use Rattle.tap_bridge.proofs.Tables.{filter_part}
use Rattle.tap_bridge.proofs.table.drop_ports.Goals as goal

pub returns-clause-entries : goal.returns-clause-entries
returns-clause-entries c =
    filter_same_pairs _ (λ e. is_among c.args.ports.now e.1.port) _ (λ k v b w f' t. search rules) _ _ c.retain.ensures.filtered

pub returns-clause-part : goal.returns-clause-part
returns-clause-part c =
    rw (returns-clause-entries c)
    (filter_part (λ (s : Seen). is_among c.args.ports.now s.port) c.args.by_address.now.entries c.retain.ensures.was_ordered)
