use Rattle.std.proofs.Common.{ap}
use Rattle.scen_words.specs.Commands.{file_of}
use Rattle.scen_words.specs.declared.command.Command.{Command}
use Rattle.core_shared.specs.declared.doing.Doing.TheVariants as doing
use Rattle.core_table.proofs.Looks as lemmas
use Rattle.core_table.proofs.Named as named
use Rattle.core_table.proofs.write.begin_write.Goals as goal

pub shape_of-requires : goal.shape_of-requires
shape_of-requires c =
    named.its_file c.args.asked.now doing.Begun c.requires.may.0 c.args.shared.now c.args.file c.table.result.now
    c.requires.may.1 (ap (λ (q : Command). file_of q) c.requires.command) c.table.ensures

pub returns-in-Err : goal.returns-in-Err
returns-in-Err c = record {
  went = lemmas.bad_written c.args.asked.now c.args.shared.now c.args.file c.args.bytes.now c.in-Some.shape c.in-Err.bad
      c.newest-seen.result c.end_bad.result c.requires.may c.requires.command
      (lemmas.front_found c.args.shared.now c.args.file c.table.result.now c.shape_of.result c.in-Some.shape
      c.table.ensures c.shape_of.ensures.shape c.in-Some.is)
      c.in-Err.ensures.refused c.newest-seen.ensures c.end_bad.ensures.ends c.end_bad.ensures.case;
}
