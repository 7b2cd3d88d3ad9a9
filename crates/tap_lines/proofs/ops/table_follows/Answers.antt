use Rattle.tap_lines.proofs.Following.{follows}
use Rattle.tap_lines.proofs.ops.table_follows.Goals as goal

pub returns : goal.returns
returns c = follows
