use Rattle.std.proofs.Common.{sym, ◌∙◌}
use Rattle.core_shared.proofs.Kit.{file_at}
use Rattle.core_next.proofs.Sides.{no_file}
use Rattle.core_next.proofs.looks.file_in.Goals as goal

pub returns-then-has : goal.returns-then-has
returns-then-has c = sym (file_at c.args.file c.args.shared.now.files c.side.result.now c.side.ensures)

pub returns-else-has : goal.returns-else-has
returns-else-has c = no_file c.args.file c.args.shared.now.files (sym c.has.ensures ∙ c.if-has.false)
