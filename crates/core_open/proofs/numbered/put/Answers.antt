use Rattle.std.proofs.Common.{rules}
use Rattle.core_open.proofs.Putting.{put_made}
use Rattle.core_open.proofs.numbered.put.Goals as goal

pub returns : goal.returns
returns g c = search (rules, put_made)
