use Rattle.vhost_dev.proofs.Rings.{sizes_stay, ready_good, layouts_stay, good_stays, stopped_stays}
use Rattle.vhost_dev.proofs.laws.rings_stay_good.Goals as goal

pub returns-clause-sizes : goal.returns-clause-sizes
returns-clause-sizes c = sizes_stay

pub returns-clause-ready : goal.returns-clause-ready
returns-clause-ready c = ready_good

pub returns-clause-layouts : goal.returns-clause-layouts
returns-clause-layouts c = layouts_stay

pub returns-clause-good : goal.returns-clause-good
returns-clause-good c = good_stays

pub returns-clause-stopped : goal.returns-clause-stopped
returns-clause-stopped c = stopped_stays
