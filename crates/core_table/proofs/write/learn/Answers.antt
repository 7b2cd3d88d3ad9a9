use Rattle.std.proofs.Common.{◌∙◌, ap}
use Rattle.tap_flow_key.specs.FlowKey.{hash}
use Rattle.core_shared.specs.declared.onward.Onward.TheVariants as on
use Rattle.core_table.proofs.Writes as lemmas
use Rattle.core_table.proofs.write.learn.Goals as goal

pub publish-requires-clause-named : goal.publish-requires-clause-named
publish-requires-clause-named c =
    lemmas.learn_named c.args.asked.now c.args.shared.now c.args.file c.flow_hash-hash.result c.args.frame c.requires.may

pub publish-requires-clause-lawful : goal.publish-requires-clause-lawful
publish-requires-clause-lawful c =
    lemmas.learn_lawful c.args.shared.now.ops.table c.args.file c.flow_hash-hash.result

pub returns : goal.returns
returns c = record {
  went = lemmas.learn_ends c.args.asked.now c.args.shared.now c.publish.new.shared c.args.file c.in_ok-version.version
      c.flow_hash-hash.result c.args.frame (on.Ends c.in_ok-version.version c.hosted-answer.result) c.requires.may
      (c.flow_hash-hash.ensures ∙ ap (λ l. hash l) c.bytes.ensures.bytes) c.in_ok-version.ensures.version
      c.in_ok-version.ensures.told (ap (λ t. on.Ends c.in_ok-version.version t) c.hosted-answer.ensures);
}
