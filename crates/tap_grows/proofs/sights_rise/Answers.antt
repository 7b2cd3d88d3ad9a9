use Rattle.tap_grows.proofs.Sights as sights
use Rattle.tap_grows.proofs.sights_rise.Goals as goal

pub returns-clause-rise : goal.returns-clause-rise
returns-clause-rise c = sights.sights_rise

pub returns-clause-left : goal.returns-clause-left
returns-clause-left c = sights.files_are_left
