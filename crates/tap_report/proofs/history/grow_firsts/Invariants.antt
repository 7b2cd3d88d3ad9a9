use Rattle.std.proofs.Common.{◌≡◌, ℕ, ◌+◌, ◌-◌, length}
use Rattle.tap_report.specs.History.{first_kept}
use Rattle.tap_report.proofs.history.grow_firsts.Given as goal

abbrev pub invariant-loop-firsts : goal.invariant-loop-firsts
invariant-loop-firsts l = (k : ℕ) → first_kept l.firsts.items k ≡ first_kept l.fn.firsts.items k

abbrev pub decreases-loop-firsts : goal.decreases-loop-firsts
decreases-loop-firsts l = l.key + 1 - length l.firsts.items
