use Rattle.core_table.proofs.Changes as lemmas
use Rattle.core_table.proofs.change.begin_change.Goals as goal

pub refuse-requires : goal.refuse-requires
refuse-requires c =
    lemmas.begun_named c.args.asked.now c.args.shared.now c.args.op c.table.result.now c.requires.may c.requires.op c.table.ensures

pub returns-in-Some : goal.returns-in-Some
returns-in-Some c = record {
  went = lemmas.begun_refused c.args.asked.now c.args.shared.now c.args.op c.table.result.now c.refuse.result
      c.newest-seen.result c.in-Some.refusal c.requires.may c.requires.op c.table.ensures c.refuse.ensures
      c.newest-seen.ensures c.in-Some.is;
}

pub course-requires : goal.course-requires
course-requires c =
    lemmas.begun_named c.args.asked.now c.args.shared.now c.args.op c.table-2.result.now c.requires.may c.requires.op c.table-2.ensures

pub returns : goal.returns
returns c = record {
  went = lemmas.begun_held c.args.asked.now c.args.shared.now c.args.op c.table.result.now c.table-2.result.now
      c.refuse.result c.newest-seen.result c.actor.result c.course.result c.requires.may c.requires.op c.table.ensures
      c.refuse.ensures c.newest-seen.ensures c.in_default.is c.actor.ensures c.table-2.ensures c.course.ensures;
}
