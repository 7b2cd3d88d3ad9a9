use Rattle.std.proofs.Common.{append_assoc}
use Rattle.scen_words.specs.Field.{line}
use Rattle.tap_report.specs.ReportText.{counts_line}
use Rattle.tap_report.proofs.Loops.{last_piece}
use Rattle.tap_report.proofs.printing.put_counts.Goals as goal

pub returns : goal.returns
unfolding counts_line
returns c = last_piece c.push_str.result _ _ _ _ _ (line (counts_line c.args.accepted c.args.waiting c.args.given c.args.dropped)) c.push_str.ensures.bytes c.in_ok-write.ensures.bytes (simp append_assoc)
