use Rattle.tap_steady.proofs.Ops as ops
use Rattle.tap_steady.proofs.operations_are_of_commands.Goals as goal

pub returns : goal.returns
returns c = ops.operations_are_of_commands
