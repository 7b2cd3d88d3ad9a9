use Rattle.std.proofs.Common.{take}
use Rattle.tap_report.specs.History.{KeepsFirst}
use Rattle.tap_report.proofs.history.firsts_of.Given as goal

abbrev pub invariant-loop-setting : goal.invariant-loop-setting
invariant-loop-setting l = KeepsFirst (take l.setting-index l.all) l.firsts.items
