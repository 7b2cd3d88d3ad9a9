use Rattle.tap_lines.proofs.Numbered.{one_change}
use Rattle.tap_lines.proofs.files.one_changes.Goals as goal

pub returns : goal.returns
returns c = one_change
