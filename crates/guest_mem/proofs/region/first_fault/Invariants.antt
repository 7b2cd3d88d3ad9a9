use Rattle.std.proofs.Common.{◌≡◌, [], take, drop}
use Rattle.guest_mem.specs.Regions.{first_fault}
use Rattle.guest_mem.proofs.region.first_fault.Given as goal

-- the regions so far have no fault
abbrev pub invariant-loop-i : goal.invariant-loop-i
invariant-loop-i l = first_fault (take l.i l.regions) (drop l.i l.regions) ≡ first_fault [] l.regions
