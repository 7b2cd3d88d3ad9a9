use Rattle.std.proofs.Common.{◌-◌, min, ap, ◌∙◌}
use Rattle.tap_report.proofs.Totals.{one_more}
use Rattle.tap_report.proofs.rows.count.Goals as goal

pub returns : goal.returns
returns c = λ fates counts. one_more _ _ _ _ _ fates c.count.ensures.counted (c.min-added.ensures ∙ ap (λ n. min n (18446744073709551615 - c.args.counters.now.bytes)) c.from.ensures) counts
