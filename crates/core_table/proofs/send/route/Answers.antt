use Rattle.std.proofs.Common.{ap}
use Rattle.scen_words.specs.declared.command.Command.{Command}
use Rattle.tap_world.specs.Setup.{device_in}
use Rattle.core_shared.specs.declared.doing.Doing.TheVariants as doing
use Rattle.core_table.proofs.Named as named
use Rattle.core_table.proofs.Sends as lemmas
use Rattle.core_table.proofs.send.route.Goals as goal

pub select-requires : goal.select-requires
select-requires c =
    named.its_device c.args.asked.now doing.Begun c.requires.may.0 c.args.shared.now c.args.device c.requires.may.1
    (ap (λ (q : Command). device_in q) c.requires.sends.command)

pub returns-in-NoQueue : goal.returns-in-NoQueue
returns-in-NoQueue c = record {
  went = lemmas.if_unqueued c.args.asked.now c.args.shared.now c.discard.new.shared c.args.device c.args.frame
      c.table.result.now c.bytes.result.now c.select.result c.discard.result c.requires.may c.requires.sends
      c.table.ensures c.bytes.ensures.bytes c.select.ensures c.in-NoQueue.is c.discard.ensures.stays
      c.discard.ensures.dropped c.discard.ensures.ends;
}

pub returns-in-Filtered : goal.returns-in-Filtered
returns-in-Filtered c = record {
  went = lemmas.if_filtered c.args.asked.now c.args.shared.now c.discard-in-Filtered.new.shared c.args.device
      c.args.frame c.table.result.now c.bytes.result.now c.select.result c.discard-in-Filtered.result c.requires.may
      c.requires.sends c.table.ensures c.bytes.ensures.bytes c.select.ensures c.in-Filtered.is
      c.discard-in-Filtered.ensures.stays c.discard-in-Filtered.ensures.dropped c.discard-in-Filtered.ensures.ends;
}

pub returns-in-Row : goal.returns-in-Row
returns-in-Row c = record {
  went = lemmas.row_found c.args.asked.now c.args.shared.now c.args.device c.args.frame c.cut.new.self
      c.table.result.now c.bytes.result.now c.select.result c.in-Row.row c.in-Row.keep c.in-Row.resizes
      c.in-Row.capacity c.newest-seen.result c.requires.may c.requires.sends c.table.ensures c.bytes.ensures.bytes
      c.select.ensures c.in-Row.is c.newest-seen.ensures c.cut.ensures;
}
