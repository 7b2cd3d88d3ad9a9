use Rattle.core_next.proofs.Sides.{vhost_found}
use Rattle.core_next.proofs.looks.vhost_in.Goals as goal

pub returns : goal.returns
returns c = vhost_found c.get.result c.args.vhost c.args.shared.now.vhosts c.get.ensures
