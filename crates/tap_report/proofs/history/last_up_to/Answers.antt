use Rattle.std.proofs.Common.{◌-◌, leb, arith, rules}
use Rattle.std.proofs.lemmas.List.Sorted.{IsPartitionPoint-from_clause, IsPartitionedBy-leb}
use Rattle.tap_report.specs.declared.history.Setting.{Setting}
use Rattle.tap_report.specs.History.{up_to}
use Rattle.tap_report.proofs.Settings.{found_last, found_none}
use Rattle.tap_report.proofs.history.last_up_to.Goals as goal

pub returns-then-count-eq0 : goal.returns-then-count-eq0
returns-then-count-eq0 c =
    let count = c.partition_point-count in
    let point = IsPartitionPoint-from_clause (λ (s : Setting). leb s.version c.args.seen) c.args.list.now count.result count.ensures.partitioned (IsPartitionedBy-leb (λ (s : Setting). s.version) c.args.list.now c.args.seen c.requires) (λ a r q called. search rules) in
    found_none (up_to c.args.seen) c.args.list.now count.result (omega arith) point.1

pub returns : goal.returns
returns c =
    let count = c.partition_point-count in
    let point = IsPartitionPoint-from_clause (λ (s : Setting). leb s.version c.args.seen) c.args.list.now count.result count.ensures.partitioned (IsPartitionedBy-leb (λ (s : Setting). s.version) c.args.list.now c.args.seen c.requires) (λ a r q called. search rules) in
    found_last (up_to c.args.seen) c.args.list.now count.result _ (omega arith) count.ensures.bound point.1 (point.0 (count.result - 1) _ (omega arith) (omega arith))
