use Rattle.std.proofs.Common.{◌≡◌, filter, rules}
use Rattle.std.proofs.lemmas.Fn.{filter_same}
use Rattle.tap_bridge.specs.Steps.{is_time_of}
use Rattle.tap_bridge.proofs.Tables.{times_kept}
use Rattle.tap_bridge.proofs.table.drop_times.Goals as goal

pub returns : goal.returns
returns c =
    let left : c.retain.new.self.keys ≡ filter (is_time_of c.args.by_address.now.entries) c.args.by_time.now.keys =
    filter_same _ (is_time_of c.args.by_address.now.entries) _ (λ p b f' t. search rules) _ _ c.retain.ensures.filtered in
    rw left (times_kept c.args.by_time.now.keys c.args.by_address.now.entries c.requires)
