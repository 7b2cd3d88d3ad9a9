use Rattle.std.proofs.Common.{refl}
use Rattle.tap_flow_key.specs.FlowKey as flow_key
use Rattle.tap_steer.specs.Table as table
use Rattle.tap_steer.specs.After as after
use Rattle.tap_steer.specs.Rules as rules
use Rattle.tap_steer.specs.Select as select
use Rattle.tap_world.proofs.laws.worked_run.Goals as goal

pub returns-clause-trace : goal.returns-clause-trace
unfolding flow_key.key table.first after.set_iff rules.refuse rules.set_iff_rules select.select
returns-clause-trace c = refl

pub returns-clause-full : goal.returns-clause-full
unfolding flow_key.key table.first after.set_iff rules.refuse rules.set_iff_rules select.select
returns-clause-full c = (refl, refl)
