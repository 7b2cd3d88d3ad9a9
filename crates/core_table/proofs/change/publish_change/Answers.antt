use Rattle.std.proofs.Common.{◌+◌, length, None}
use Rattle.core_shared.specs.Did.{Went}
use Rattle.core_shared.specs.declared.doing.Doing.TheVariants as doing
use Rattle.core_shared.specs.declared.onward.Onward.TheVariants as on
use Rattle.tap_trace.specs.declared.answer.Answer.TheVariants as answer
use Rattle.core_table.proofs.Changes as lemmas
use Rattle.core_table.proofs.change.publish_change.Goals as goal

pub publish_last-requires-clause-named : goal.publish_last-requires-clause-named
publish_last-requires-clause-named c =
    lemmas.op_named c.args.asked.now c.args.shared.now (doing.Changes c.args.op) c.args.op c.requires.may c.requires.may.1.suits

pub publish_last-requires-clause-lawful : goal.publish_last-requires-clause-lawful
publish_last-requires-clause-lawful c =
    lemmas.lawful c.args.asked.now c.args.shared.now (doing.Changes c.args.op) c.args.op c.requires.may c.requires.may.1.suits
    lemmas.to_change

pub returns : goal.returns
returns c = record {
  went = lemmas.if_last (Went c.args.asked.now (doing.Changes c.args.op) c.args.shared.now) c.publish_last.new.shared
      (lemmas.publishing c.args.asked.now c.args.shared.now c.args.op None)
      (on.Ends (length c.args.shared.now.ops.ops + 1) (answer.Version (length c.args.shared.now.ops.ops + 1)))
      c.publish_last.result c.publish_last.ensures.ends c.publish_last.ensures.told
      (lemmas.change_published c.args.asked.now c.args.shared.now c.args.op c.requires.may);
}
