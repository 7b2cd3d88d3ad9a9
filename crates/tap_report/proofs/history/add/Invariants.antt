use Rattle.std.proofs.Common.{◌≡◌, ℕ, false, leb, length}
use Rattle.tap_report.specs.History.{AreRising, last_up_to}
use Rattle.tap_report.proofs.history.add.Given as goal

abbrev pub invariant-loop-list : goal.invariant-loop-list
invariant-loop-list l =
    ((seen : ℕ) → leb l.setting.version seen ≡ false → last_up_to seen l.list ≡ last_up_to seen l.fn.list) × (AreRising l.fn.list → AreRising l.list)

abbrev pub decreases-loop-list : goal.decreases-loop-list
decreases-loop-list l = length l.list
