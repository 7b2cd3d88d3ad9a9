use Rattle.std.proofs.Common.{◌≡◌, ◌≤◌, sum_by, take}
use Rattle.guest_mem.proofs.region.is_too_large.Given as goal

-- the total so far
abbrev pub invariant-loop-region : goal.invariant-loop-region
invariant-loop-region l = (l.total ≡ sum_by (λ r. r.len) (take l.region-index l.regions)) × (l.total ≤ 16777216)
