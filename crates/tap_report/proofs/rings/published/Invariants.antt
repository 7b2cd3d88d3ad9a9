use Rattle.std.proofs.Common.{◌≡◌, length, take}
use Rattle.std.specs.List.{sum_by}
use Rattle.tap_trace.specs.declared.trace.PositionList.{PositionList}
use Rattle.tap_report.specs.Rows.{capped}
use Rattle.tap_report.proofs.rings.published.Given as goal

abbrev pub invariant-loop-list : goal.invariant-loop-list
invariant-loop-list l = l.count ≡ capped (sum_by (λ (p : PositionList). length p.used) (take l.list-index l.lists))
