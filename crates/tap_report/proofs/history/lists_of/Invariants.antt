use Rattle.std.proofs.Common.{take}
use Rattle.tap_report.specs.History.{Follows}
use Rattle.tap_report.proofs.history.lists_of.Given as goal

abbrev pub invariant-loop-setting : goal.invariant-loop-setting
invariant-loop-setting l = Follows (take l.setting-index l.all) l.lists.items
