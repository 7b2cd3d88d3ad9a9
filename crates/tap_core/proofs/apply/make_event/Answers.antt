use Rattle.tap_core.proofs.Making.{made_places, was_done}
use Rattle.tap_core.proofs.apply.make_event.Goals as goal

pub settle-requires : goal.settle-requires
settle-requires c =
    made_places c.args.scenario.now c.args.event.now.actor c.args.shared.now c.step.new.shared c.args.actors.now c.step.new.actors
    c.go_on.new.actors c.in_ok-onward.onward c.in_ok-onward.ensures c.in_ok-found.ensures.actors c.requires.places

pub returns : goal.returns
returns c =
    was_done c.args.scenario.now c.args.event.now c.args.shared.now c.step.new.shared c.settle.new.shared c.args.actors.now
    c.step.new.actors c.go_on.new.actors c.settle.new.actors c.args.said.now.items c.go_on.new.said.items c.settle.new.said.items
    c.in_ok-onward.onward c.in_ok-ended.ended c.in_ok-found.found c.found_where.result c.in_ok-onward.ensures
    c.in_ok-found.ensures.actors c.in_ok-found.ensures.said c.in_ok-found.ensures.found c.in_ok-ended.ensures c.found_where.ensures
