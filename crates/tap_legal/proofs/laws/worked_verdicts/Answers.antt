use Rattle.std.proofs.Common.{refl}
use Rattle.tap_flow_key.specs.FlowKey as flow_key
use Rattle.tap_steer.specs.Table as table
use Rattle.tap_steer.specs.After as after
use Rattle.tap_steer.specs.Rules as rules
use Rattle.tap_steer.specs.Select as select
use Rattle.scen_text.specs.Before as before
use Rattle.tap_legal.proofs.laws.worked_verdicts.Goals as goal

pub returns-clause-legal : goal.returns-clause-legal
unfolding flow_key.key table.first after.set_iff rules.refuse rules.set_iff_rules select.select before.number_among
returns-clause-legal c = refl

pub returns-clause-illegal : goal.returns-clause-illegal
unfolding flow_key.key table.first after.set_iff rules.refuse rules.set_iff_rules select.select before.number_among
returns-clause-illegal c = refl
