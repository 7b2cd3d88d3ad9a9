use Rattle.std.proofs.Common.{◌∙◌}
use Rattle.tap_told.proofs.Declared.{name_is}
use Rattle.tap_told.proofs.operations.name_of.Goals as goal

pub returns : goal.returns
returns c =
    c.duplicate.ensures ∙ c.index-as_slice-from.is
    ∙ name_is c.args.scenario.now _ c.args.device _ _ c.as_slice.ensures c.from.ensures c.requires
