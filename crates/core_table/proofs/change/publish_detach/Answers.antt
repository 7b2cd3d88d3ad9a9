use Rattle.core_shared.specs.declared.doing.Doing.TheVariants as doing
use Rattle.core_table.proofs.Changes as lemmas
use Rattle.core_table.proofs.change.publish_detach.Goals as goal

pub publish-requires-clause-named : goal.publish-requires-clause-named
publish-requires-clause-named c =
    lemmas.op_named c.args.asked.now c.args.shared.now (doing.Withdraws c.args.file c.args.op) c.args.op c.requires.may
    c.requires.may.1.suits

pub publish-requires-clause-lawful : goal.publish-requires-clause-lawful
publish-requires-clause-lawful c =
    lemmas.lawful c.args.asked.now c.args.shared.now (doing.Withdraws c.args.file c.args.op) c.args.op c.requires.may
    c.requires.may.1.suits (lemmas.to_detach c.args.file)

pub returns : goal.returns
returns c = record {
  went = lemmas.detach_goes c.args.asked.now c.args.shared.now c.publish.new.shared c.args.file c.in_ok-version.version
      c.args.op c.requires.may c.in_ok-version.ensures.version c.in_ok-version.ensures.told;
}
