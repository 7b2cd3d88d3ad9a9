use Rattle.tap_top.proofs.Ended.{ended}
use Rattle.tap_top.proofs.top.plain_main.Goals as goal

pub returns : goal.returns
returns g c = ended _ _ _ _ _ _ _ c.course.result c.course.ensures
