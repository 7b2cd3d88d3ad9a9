use Rattle.tap_core.proofs.Settling.{settled_none, settled_some}
use Rattle.tap_core.proofs.settle.settle.Goals as goal

pub returns-in_default : goal.returns-in_default
returns-in_default c = settled_none c.args.scenario.now c.args.shared.now c.args.actors.now c.args.said.now.items c.in_default.ensures

pub returns : goal.returns
returns c =
    settled_some c.args.scenario.now c.args.shared.now c.args.actors.now c.args.said.now.items c.in-Some.ended c.requires
    c.in-Some.ensures c.actor_mut.result.now c.end.new.self c.push.new.self.items c.actor_mut.ensures.value c.end.ensures
    c.in_ok-push.ensures.items
