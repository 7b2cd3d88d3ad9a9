use Rattle.std.proofs.Common.{ap}
use Rattle.scen_words.specs.Commands.{file_of}
use Rattle.scen_words.specs.declared.command.Command.{Command}
use Rattle.core_shared.specs.declared.doing.Doing.TheVariants as doing
use Rattle.core_table.proofs.Named as named
use Rattle.core_table.proofs.read.begin_read.Goals as goal

pub shape_of-requires : goal.shape_of-requires
shape_of-requires c =
    named.its_file c.args.asked.now doing.Begun c.requires.may.0 c.args.shared.now c.args.file c.table.result.now
    c.requires.may.1 (ap (λ (q : Command). file_of q) c.requires.command) c.table.ensures
