use Rattle.tap_lines.proofs.Places.{set_restand}
use Rattle.tap_lines.proofs.frame_line.restand.Goals as goal

pub returns : goal.returns
returns c = set_restand _ _ _ _ c.requires c.index_mut.ensures.value
