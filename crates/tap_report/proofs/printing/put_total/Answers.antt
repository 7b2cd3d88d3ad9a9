use Rattle.std.proofs.Common.{string_bytes}
use Rattle.std.proofs.lemmas.Result.{IfOk-equal}
use Rattle.tap_report.proofs.Loops.{total_shown}
use Rattle.tap_report.proofs.printing.put_total.Goals as goal

pub returns : goal.returns
returns c =
    IfOk-equal c.put_counts.result _ _ _ c.put_counts.ensures
    (total_shown (string_bytes c.args.out.now) c.args.total.now c.delivered.result c.discarded.result c.delivered.ensures c.discarded.ensures)
